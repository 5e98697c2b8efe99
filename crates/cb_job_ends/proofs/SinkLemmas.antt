-- Lemmas on what puts append.
use Rattle.std.proofs.Common.{◌≡◌, ℕ, ◌+◌, List, ◌++◌, None, Some, Option, ap, sym, ◌∙◌, append_assoc, take, drop, subst, length, ◌-◌, [], min, arith, append-nil}
use Rattle.std.proofs.lemmas.List.{take_rest, take_min, take-append-le}
use Rattle.std.proofs.Math.Seq.{take-add, take-append-add}
use Rattle.std.specs.Prelude.{Bool, true, Result, Ok, Err, IsErrAnd}
use Rattle.std.specs.Io.KnownBytes.{Appends}
use Rattle.cb_job_ends.specs.Sinks.{AppendsPrefix, IsPut}

-- two runs of puts, one after the other
pub Appends-trans : (a b c : Option (List ℕ)) (bs cs : List ℕ) → Appends a b bs → Appends b c cs → Appends a c (bs ++ cs)
Appends-trans None b c bs cs p q = tt
Appends-trans (Some x) None c bs cs p q = absurd p
Appends-trans (Some x) (Some y) None bs cs p q = absurd q
Appends-trans (Some x) (Some y) (Some z) bs cs p q = q ∙ ap (λ l. l ++ cs) p ∙ append_assoc x bs cs

-- the next piece of a text, which a put took from `&text[i..]`
pub appends_more : (a b c : Option (List ℕ)) (text : List ℕ) (i n : ℕ) → Appends a b (take i text)
    → Appends b c (take n (take (length text - i) (drop i text))) → Appends a c (take (i + n) text)
appends_more a b c text i n p q =
    let front : take n (take (length text - i) (drop i text)) ≡ take n (drop i text) = ap (take n) (take_rest text i) in
    subst (Appends a c) (ap (λ l. take i text ++ l) front ∙ sym (take-add i n text)) (Appends-trans a b c _ _ p q)

-- nothing more
pub appends_none : (a : Option (List ℕ)) → Appends a a []
appends_none None = tt
appends_none (Some x) = sym (append-nil x)

-- a page more of a text
pub appends_page : (a b c : Option (List ℕ)) (done page before after text : List ℕ) → Appends a b done → Appends b c page → before ≡ page ++ after → done ++ before ≡ text → (more : List ℕ) × Appends a c more × (more ++ after ≡ text)
appends_page a b c done page before after text p q e w =
    (done ++ page, Appends-trans a b c done page p q, append_assoc done page after ∙ ap (λ l. done ++ l) (sym e) ∙ w)

-- a beginning of a page more of it
pub prefix_page : (a b c : Option (List ℕ)) (done page before after text : List ℕ) → Appends a b done → AppendsPrefix b c page → before ≡ page ++ after → done ++ before ≡ text → AppendsPrefix a c text
prefix_page a b c done page before after text p q e w =
    let m = min q.0 (length page) in
    let short : take m page ≡ take q.0 page = take_min q.0 page in
    let front : take m (page ++ after) ≡ take m page = take-append-le m page after (omega arith) in
    let whole : take (length done + m) text ≡ done ++ take q.0 page =
    ap (take (length done + m)) (sym w ∙ ap (λ l. done ++ l) e) ∙ take-append-add done (page ++ after) m ∙ ap (λ l. done ++ l) (front ∙ short) in
    (length done + m, subst (Appends a c) (sym whole) (Appends-trans a b c done (take q.0 page) p q.1))

-- a put that fails ends a call that puts a text, if a beginning of the text was written
pub put_stopped : {T E : Type 0} (Q : E → Type 0) {text : List ℕ} {before after : Option (List ℕ)} {has_failed : Bool} (r : Result T E) → IsErrAnd r Q
    → AppendsPrefix before after text → has_failed ≡ true → IsPut text before after has_failed r
put_stopped Q (Ok x) is p f = absurd is
put_stopped Q (Err e) is p f = record { whole = tt; works = tt; prefix = p; fails = f }

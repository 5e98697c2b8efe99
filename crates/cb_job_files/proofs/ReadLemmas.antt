-- Reads of a file, one after the other.
use Rattle.std.proofs.Common.{◌≡◌, ℕ, ◌+◌, List, [], ◌∷◌, ◌++◌, length, refl, ap, sym, ◌∙◌, subst, append-nil, append_assoc, length-append, arith, add-zero, flat_map, take, drop, replicate, ◌-◌, ◌≤◌, ◌<◌}
use Rattle.std.proofs.lemmas.List.{take-append-le, take_all, take-take}
use Rattle.std.proofs.Math.Seq.{take-append-add, take-append_seam}
use Rattle.std.proofs.lemmas.List.Concat.{flat_map-append}
use Rattle.std.proofs.lemmas.List.Elements.{All-head, All-tail}
use Rattle.std.specs.Prelude.{All, Option, None, Some, IfSome}
use Rattle.cb_job_files.specs.StoredFiles.{AreRead, GivePieces, IsWhole, pieced}
use Rattle.cb_job_files.specs.Loading.{AreInOrder, IsPart, bytes_of}
use Rattle.cb_job_files.specs.declared.loading.Part.{Part}

module _ (gives : ℕ → List ℕ → Type 0) where
  -- no read
  pub none_read : (place : ℕ) → AreRead gives place []
  none_read place = ([], refl, tt)

  -- pieces after others
  pieces_joined : (ps qs : List (List ℕ)) (place : ℕ) → GivePieces gives place ps → GivePieces gives (place + length (pieced ps)) qs → GivePieces gives place (ps ++ qs)
  pieces_joined [] qs place p q = subst (λ n. GivePieces gives n qs) (add-zero place) q
  pieces_joined (x ∷ ps) qs place p q =
      let after : place + length (x ++ pieced ps) ≡ (place + length x) + length (pieced ps) = omega (arith, length-append x (pieced ps)) in
      (p.0, pieces_joined ps qs (place + length x) p.1 (subst (λ n. GivePieces gives n qs) after q))

  -- the bytes of reads, and those of reads that went on where these ended
  pub reads_joined : (place next : ℕ) (xs ys : List ℕ) → AreRead gives place xs → AreRead gives next ys → place + length xs ≡ next → AreRead gives place (xs ++ ys)
  reads_joined place next xs ys p q e =
      let here : place + length (pieced p.0) ≡ next = ap (λ l. place + length l) p.1 ∙ e in
      let both : pieced (p.0 ++ q.0) ≡ xs ++ ys = flat_map-append (λ (piece : List ℕ). piece) p.0 q.0 ∙ ap (λ l. l ++ pieced q.0) p.1 ∙ ap (λ l. xs ++ l) q.1 in
      (p.0 ++ q.0, both, pieces_joined p.0 q.0 place p.2 (subst (λ n. GivePieces gives n q.0) (sym here) q.2))

  -- the bytes of reads, and those of one more
  pub read_more : (place next : ℕ) (xs ys : List ℕ) → AreRead gives place xs → gives next ys → place + length xs ≡ next → AreRead gives place (xs ++ ys)
  read_more place next xs ys p h e = reads_joined place next xs ys p (ys ∷ [], append-nil ys, (h, tt)) e

-- a list that was lengthened begins with what it was
pub lengthened : (old : List ℕ) (end more : ℕ) → length old ≤ end → take (length old) (take end old ++ replicate more 0) ≡ old
lengthened old end more l =
    ap (λ xs. take (length old) (xs ++ replicate more 0)) (take_all end old l) ∙ take-append_seam old (replicate more 0)

-- what is left of a list of which the front was old and a read filled what came after, once it is cut behind what was read
pub cut_behind : (old front into post rest : List ℕ) (done count size : ℕ) → done ≡ length old → front ≡ old → count ≤ length into → done + count ≤ size
    → take (done + count) (take size (front ++ (into ++ post) ++ rest)) ≡ old ++ take count into
cut_behind old front into post rest done count size d e l m =
    take-take (done + count) size (front ++ (into ++ post) ++ rest) m
    ∙ ap (λ n. take (n + count) (front ++ (into ++ post) ++ rest)) d
    ∙ ap (λ xs. take (length old + count) (xs ++ (into ++ post) ++ rest)) e
    ∙ ap (take (length old + count)) (append_assoc old (into ++ post) rest)
    ∙ take-append-add old ((into ++ post) ++ rest) count
    ∙ ap (λ xs. old ++ take count xs) (append_assoc into post rest)
    ∙ ap (λ xs. old ++ xs) (take-append-le count into (post ++ rest) l)

-- parts that are loaded, each from where the one before it ends, are what reads gave
pub parts_read : (gives : ℕ → List ℕ → Type 0) (parts : List Part) (place end : ℕ) → All (IsPart gives) parts → AreInOrder place parts end → AreRead gives place (bytes_of parts) × (place + length (bytes_of parts) ≡ end)
parts_read gives [] place end h o = (none_read gives place, add-zero place ∙ o)
parts_read gives (part ∷ parts) place end h o =
    let rest = parts_read gives parts (place + length part.bytes.items) end (All-tail (IsPart gives) part parts h) o.2 in
    let here : AreRead gives place part.bytes.items = subst (λ n. AreRead gives n part.bytes.items) o.1 (All-head (IsPart gives) part parts h o.0) in
    let counted = rest.1 in (
      reads_joined gives place (place + length part.bytes.items) part.bytes.items (bytes_of parts) here rest.0 refl,
      omega (arith, counted, length-append part.bytes.items (bytes_of parts)),
    )

-- so they are all of a file that ends where they end and has said so
pub parts_whole : (gives : ℕ → List ℕ → Type 0) (says : Option ℕ → Type 0) (parts : List Part) (end : ℕ) → All (IsPart gives) parts → AreInOrder 0 parts end → gives end [] → says (Some end) → IsWhole gives says (bytes_of parts)
parts_whole gives says parts end h o last said =
    let all = parts_read gives parts 0 end h o in
    let count : length (bytes_of parts) ≡ end = omega (arith, all.1) in record {
      read = all.0;
      ends = subst (λ n. gives n []) (sym count) last;
      counted = (Some end, said, count);
    }

-- what a slice that was written leaves of its list
pub written_back : (new old : List Part) (size : ℕ) → length old ≡ size → length new ≡ size → take size (new ++ drop (length new) old) ≡ new
written_back new old size o n =
    let all : take (length new) (new ++ drop (length new) old) ≡ new = take-append_seam new (drop (length new) old) in
    subst (λ k. take k (new ++ drop (length new) old) ≡ new) n all

-- what parts are by one list they are by another that is the same
pub text_whole : (gives : ℕ → List ℕ → Type 0) (says : Option ℕ → Type 0) (parts written : List Part) (end : ℕ) (text : Option (List ℕ)) → written ≡ parts
    → All (IsPart gives) parts → AreInOrder 0 written end → gives end [] → says (Some end) → IfSome text (λ t. t ≡ bytes_of written) → IfSome text (IsWhole gives says)
text_whole gives says parts written end None e h o last said is = tt
text_whole gives says parts written end (Some t) e h o last said is =
    subst (IsWhole gives says) (sym is) (parts_whole gives says written end (subst (All (IsPart gives)) (sym e) h) o last said)

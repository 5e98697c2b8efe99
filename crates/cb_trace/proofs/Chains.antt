-- What a trace keeps of its lanes, as events are recorded.
use Rattle.std.proofs.Common.{◌≡◌, ℕ, ◌+◌, ◌-◌, ◌*◌, ◌<◌, ◌≤◌, ◌==◌, ◌&&◌, Bool, false, if◌then◌else◌, List, [], ◌∷◌, ◌++◌, length, slice_get, slice_index, slice_set, Some, ◌⊎◌, inl, inr, refl, sym, ◌∙◌, ap, subst, arith, get_or-set_same, get_or-set_other}
use Rattle.std.proofs.lemmas.Bool.{cases_eq, eq-eqb, ne_eqb, and_left, and_right}
use Rattle.std.proofs.lemmas.List.{length_push, length-set}
use Rattle.std.proofs.lemmas.Nat.{same_from_place}
use Rattle.std.proofs.lemmas.Option.{slice_get_within}
use Rattle.cb_letters.specs.declared.Letter.{Letter}
use Rattle.cb_letters.specs.Letters.{is_close}
use Rattle.cb_letters.specs.Events.{Event, Sent, Got, posts_on, takes_on}
use Rattle.cb_letters.specs.Posted.{ends_closed}
use Rattle.cb_letters.proofs.Marks.{ends_closed-append}
use Rattle.cb_trace.specs.declared.ends.LaneEnds.{LaneEnds}
use Rattle.cb_trace.specs.Ends.{IsPost, AreEnds, AreLanes, after_post, next_after_post, after_take}
use Rattle.cb_trace.proofs.Appended.{slice_get-append, slice_get-last, slice_get-push, slice_get-set, slice_get-set_same, posts_on-here, posts_on-elsewhere, posts_on-take, takes_on-here, takes_on-elsewhere, takes_on-post}
use Rattle.cb_trace.proofs.Posts.{IsPost-kept, IsPost-last, IsPost-push, IsPost-within, IsPost-unique}

-- once a letter is posted at this place, the chain leads from the newest letter to it
next_there : (l : LaneEnds) (place : ℕ) (next : List ℕ) → 0 < l.posted → l.newest < length next → slice_index (next_after_post l place next) l.newest ≡ place
next_there l place next some within =
    let some_posted : (l.posted == 0) ≡ false = ne_eqb l.posted 0 (λ none. omega arith) in
    ap (λ (b : Bool). slice_index (if b then next else slice_set next l.newest place) l.newest) some_posted ∙ get_or-set_same next l.newest place 0 within

-- the chain leads from any other letter as before
next_elsewhere : (l : LaneEnds) (place : ℕ) (next : List ℕ) (p : ℕ) → (0 < l.posted → p ≡ l.newest → ⊥) → slice_index (next_after_post l place next) p ≡ slice_index next p
next_elsewhere l place next p other =
    elim (cases_eq l.posted 0) [
      | inl none ↦ ap (λ (b : Bool). slice_index (if b then next else slice_set next l.newest place) p) (eq-eqb l.posted 0 none)
      | inr some ↦ ap (λ (b : Bool). slice_index (if b then next else slice_set next l.newest place) p) (ne_eqb l.posted 0 some) ∙ get_or-set_other next l.newest p place 0 (other (omega arith))
    ]

-- an event of one lane is of no other lane
other_lane : (f t g u : ℕ) → ((f ≡ g) × (t ≡ u) → ⊥) → ((g == f) && (u == t)) ≡ false
other_lane f t g u other =
    elim (cases_eq g f)
    [ inl same ↦ and_right (g == f) (u == t) (ne_eqb u t (λ to. other (sym same, sym to))) | inr apart ↦ and_left (g == f) (u == t) (ne_eqb g f apart) ]

module _ {P : Type 0} where
  -- a letter's number is below the number of letters posted
  pub number_below : (past : List (Event P)) (next : List ℕ) (f t : ℕ) (l : LaneEnds) (p n : ℕ) → AreEnds past next f t l → IsPost past f t p n → n < l.posted
  number_below past next f t l p n a h =
      let within = slice_get_within (posts_on f t past) h.letter.number h.letter (a.letters p h.letter h.found) in
      let posted = a.posted in
      let numbered = h.numbered in
      omega arith

  -- the ends of a lane on which nothing happens stay right
  AreEnds-kept : (past : List (Event P)) (e : Event P) (next next' : List ℕ) (f t : ℕ) (l : LaneEnds) → AreEnds past next f t l
      → posts_on f t (past ++ e ∷ []) ≡ posts_on f t past → takes_on f t (past ++ e ∷ []) ≡ takes_on f t past → ((x : Letter P) → e ≡ Sent f t x → ⊥)
      → ((p n : ℕ) → IsPost past f t p n → slice_index next' p ≡ slice_index next p) → AreEnds (past ++ e ∷ []) next' f t l
  AreEnds-kept past e next next' f t l a posts takes never same = record {
    posted = a.posted ∙ ap length (sym posts);
    taken = a.taken ∙ ap length (sym takes);
    closed = a.closed ∙ ap ends_closed (sym posts);
    letters = (λ p x h.
        elim (slice_get-push past e p (Sent f t x) h)
        [ inl k ↦ subst (λ (xs : List (Letter P)). slice_get xs x.number ≡ Some x) (sym posts) (a.letters p x k) | inr k ↦ absurd (never x k.1) ]);
    oldest = (λ h. IsPost-kept past (e ∷ []) f t l.oldest l.taken (a.oldest h));
    newest = (λ h. IsPost-kept past (e ∷ []) f t l.newest (l.posted - 1) (a.newest h));
    last = (λ p n h last. elim (IsPost-push past e f t p n h) [ inl k ↦ a.last p n k last | inr k ↦ absurd (never k.1.0 k.1.1) ]);
    links = (λ p n h below.
        elim (IsPost-push past e f t p n h)
        [ inl k ↦ subst (λ (q : ℕ). IsPost (past ++ e ∷ []) f t q (n + 1)) (sym (same p n k)) (IsPost-kept past (e ∷ []) f t (slice_index next p) (n + 1) (a.links p n k below)) | inr k ↦ absurd (never k.1.0 k.1.1) ]);
  }

  -- the ends of a lane stay right as a letter is taken from it
  AreEnds-take : (past : List (Event P)) (next : List ℕ) (f t : ℕ) (l : LaneEnds) (x : Letter P) → AreEnds past next f t l → l.taken < l.posted
      → AreEnds (past ++ Got f t x ∷ []) next f t (after_take l next)
  AreEnds-take past next f t l x a some =
      let e : Event P = Got f t x in
      let posts = posts_on-take f t f t x past in
      let takes = takes_on-here f t x past in
      record {
        posted = a.posted ∙ ap length (sym posts);
        taken = ap (λ (n : ℕ). n + 1) a.taken ∙ sym (length_push (takes_on f t past) x) ∙ ap length (sym takes);
        closed = a.closed ∙ ap ends_closed (sym posts);
        letters = (λ p y h.
            elim (slice_get-push past e p (Sent f t y) h)
            [ inl k ↦ subst (λ (xs : List (Letter P)). slice_get xs y.number ≡ Some y) (sym posts) (a.letters p y k) | inr k ↦ let wrong = k.1 in cc ]);
        oldest = (λ h. IsPost-kept past (e ∷ []) f t (slice_index next l.oldest) (l.taken + 1) (a.links l.oldest l.taken (a.oldest some) h));
        newest = (λ h. IsPost-kept past (e ∷ []) f t l.newest (l.posted - 1) (a.newest h));
        last = (λ p n h last. elim (IsPost-push past e f t p n h) [ inl k ↦ a.last p n k last | inr k ↦ let wrong = k.1.1 in cc ]);
        links = (λ p n h below.
            elim (IsPost-push past e f t p n h)
            [ inl k ↦ IsPost-kept past (e ∷ []) f t (slice_index next p) (n + 1) (a.links p n k below) | inr k ↦ absurd (let wrong : e ≡ Sent f t k.1.0 = k.1.1 in cc) ]);
      }

  -- the ends of a lane stay right as a letter is posted on it
  AreEnds-post : (past : List (Event P)) (next : List ℕ) (f t : ℕ) (l : LaneEnds) (x : Letter P) (closes : Bool) → AreEnds past next f t l → length past ≤ length next
      → x.number ≡ l.posted → is_close x.body ≡ closes
      → AreEnds (past ++ Sent f t x ∷ []) (next_after_post l (length past) next) f t (after_post l (length past) closes)
  AreEnds-post past next f t l x closes a room number close = record {
    posted = ap (λ (n : ℕ). n + 1) a.posted ∙ sym (length_push (posts_on f t past) x) ∙ ap length (sym posts);
    taken = a.taken ∙ ap length (sym (takes_on-post f t f t x past));
    closed = sym close ∙ sym (ends_closed-append (posts_on f t past) x) ∙ ap ends_closed (sym posts);
    letters = letters;
    oldest = oldest;
    newest = (λ some. IsPost-last past f t (l.posted + 1 - 1) x (omega arith));
    last = last;
    links = links;
  }
    where
      e : Event P
      e = Sent f t x

      posts : posts_on f t (past ++ e ∷ []) ≡ posts_on f t past ++ x ∷ []
      posts = posts_on-here f t x past

      letters : (p : ℕ) (y : Letter P) → slice_get (past ++ e ∷ []) p ≡ Some (Sent f t y) → slice_get (posts_on f t (past ++ e ∷ [])) y.number ≡ Some y
      letters p y h =
          subst (λ (xs : List (Letter P)). slice_get xs y.number ≡ Some y) (sym posts)
          (elim (slice_get-push past e p (Sent f t y) h)
          [ inl k ↦ slice_get-append (posts_on f t past) (x ∷ []) y.number y (a.letters p y k) | inr k ↦ last_letter y k.1 ])
        where
          last_letter : (y : Letter P) → Sent f t x ≡ Sent f t y → slice_get (posts_on f t past ++ x ∷ []) y.number ≡ Some y
          last_letter y same =
              let one : x ≡ y = cc in
              subst (λ (z : Letter P). slice_get (posts_on f t past ++ x ∷ []) z.number ≡ Some z) one
              (subst (λ (n : ℕ). slice_get (posts_on f t past ++ x ∷ []) n ≡ Some x) (sym (number ∙ a.posted)) (slice_get-last (posts_on f t past) x))

      oldest : l.taken < l.posted + 1 → IsPost (past ++ e ∷ []) f t (if l.taken == l.posted then length past else l.oldest) l.taken
      oldest h =
          elim (cases_eq l.taken l.posted) [
            | inl all ↦
                subst (λ (b : Bool). IsPost (past ++ e ∷ []) f t (if b then length past else l.oldest) l.taken) (sym (eq-eqb l.taken l.posted all)) (IsPost-last past f t l.taken x (number ∙ sym all))
            | inr some ↦
                subst (λ (b : Bool). IsPost (past ++ e ∷ []) f t (if b then length past else l.oldest) l.taken) (sym (ne_eqb l.taken l.posted some))
                (IsPost-kept past (e ∷ []) f t l.oldest l.taken (a.oldest (omega arith)))
          ]

      last : (p n : ℕ) → IsPost (past ++ e ∷ []) f t p n → n + 1 ≡ l.posted + 1 → p ≡ length past
      last p n h eq =
          elim (IsPost-push past e f t p n h) [ inl k ↦ let below = number_below past next f t l p n a k in absurd (omega arith) | inr k ↦ k.0 ]

      links : (p n : ℕ) → IsPost (past ++ e ∷ []) f t p n → n + 1 < l.posted + 1 → IsPost (past ++ e ∷ []) f t (slice_index (next_after_post l (length past) next) p) (n + 1)
      links p n h below =
          elim (IsPost-push past e f t p n h) [
            | inl k ↦ elim (cases_eq (n + 1) l.posted) [ inl newest ↦ to_new p n k newest | inr older ↦ to_old p n k (omega arith) ]
            | inr k ↦ absurd (new_is_last n k.1.0 k.1.1 k.1.2 below)
          ]
        where
          new_is_last : (n : ℕ) (y : Letter P) → Sent f t x ≡ Sent f t y → y.number ≡ n → n + 1 < l.posted + 1 → ⊥
          new_is_last n y same is below =
              let one : x ≡ y = cc in let two = ap (λ (z : Letter P). z.number) one in omega arith

          to_new : (p n : ℕ) → IsPost past f t p n → n + 1 ≡ l.posted → IsPost (past ++ e ∷ []) f t (slice_index (next_after_post l (length past) next) p) (n + 1)
          to_new p n k newest =
              let some : 0 < l.posted = omega arith in
              let at : p ≡ l.newest = a.last p n k newest in
              let inside = IsPost-within past f t p n k in
              let within : l.newest < length next = omega arith in
              let leads : slice_index (next_after_post l (length past) next) p ≡ length past = ap (λ (q : ℕ). slice_index (next_after_post l (length past) next) q) at ∙ next_there l (length past) next some within in
              subst (λ (q : ℕ). IsPost (past ++ e ∷ []) f t q (n + 1)) (sym leads) (IsPost-last past f t (n + 1) x (number ∙ sym newest))

          to_old : (p n : ℕ) → IsPost past f t p n → n + 1 < l.posted → IsPost (past ++ e ∷ []) f t (slice_index (next_after_post l (length past) next) p) (n + 1)
          to_old p n k older =
              let leads = next_elsewhere l (length past) next p (λ some at.
              let there = subst (λ (q : ℕ). IsPost past f t q n) at k in
              let wrong : n ≡ l.posted - 1 = (IsPost-unique past f t f t l.newest n (l.posted - 1) there (a.newest some)).2 in
              omega arith) in
              subst (λ (q : ℕ). IsPost (past ++ e ∷ []) f t q (n + 1)) (sym leads) (IsPost-kept past (e ∷ []) f t (slice_index next p) (n + 1) (a.links p n k older))

  -- the ends of all lanes stay right if those of the event's lane do, and the event is of no other lane
  AreLanes-one : (ranks : ℕ) (past : List (Event P)) (e : Event P) (next next' : List ℕ) (lanes : List LaneEnds) (from to : ℕ) (l : LaneEnds) → AreLanes ranks past next lanes → to < ranks
      → AreEnds (past ++ e ∷ []) next' from to l → ((f t : ℕ) (m : LaneEnds) → ((f ≡ from) × (t ≡ to) → ⊥) → AreEnds past next f t m → AreEnds (past ++ e ∷ []) next' f t m)
      → AreLanes ranks (past ++ e ∷ []) next' (slice_set lanes (from * ranks + to) l)
  AreLanes-one ranks past e next next' lanes from to l a to_in here others = record { count = length-set lanes (from * ranks + to) l ∙ a.count; each = each }
    where
      changed : (f t : ℕ) (m : LaneEnds) → f ≡ from → t ≡ to → l ≡ m → AreEnds (past ++ e ∷ []) next' f t m
      changed f t m first second same =
          subst (λ (g : ℕ). AreEnds (past ++ e ∷ []) next' g t m) (sym first)
          (subst (λ (u : ℕ). AreEnds (past ++ e ∷ []) next' from u m) (sym second) (subst (λ (k : LaneEnds). AreEnds (past ++ e ∷ []) next' from to k) same here))

      each : (f t : ℕ) (m : LaneEnds) → f < ranks → t < ranks → slice_get (slice_set lanes (from * ranks + to) l) (f * ranks + t) ≡ Some m → AreEnds (past ++ e ∷ []) next' f t m
      each f t m f_in t_in h =
          elim (same_or_other f t) [
            | inl same ↦ changed f t m same.0 same.1 (at_it f t m same h)
            | inr apart ↦ others f t m apart (a.each f t m f_in t_in (elsewhere f t m t_in apart h))
          ]
        where
          same_or_other : (f t : ℕ) → ((f ≡ from) × (t ≡ to)) ⊎ ((f ≡ from) × (t ≡ to) → ⊥)
          same_or_other f t =
              elim (cases_eq f from) [ inl first ↦ elim (cases_eq t to) [ inl second ↦ inl (first, second) | inr apart ↦ inr (λ same. apart same.1) ] | inr apart ↦ inr (λ same. apart same.0) ]

          at_it : (f t : ℕ) (m : LaneEnds) → (f ≡ from) × (t ≡ to) → slice_get (slice_set lanes (from * ranks + to) l) (f * ranks + t) ≡ Some m → l ≡ m
          at_it f t m same h =
              slice_get-set_same lanes (from * ranks + to) l m
              (subst (λ (g : ℕ). slice_get (slice_set lanes (from * ranks + to) l) (g * ranks + to) ≡ Some m) same.0
              (subst (λ (u : ℕ). slice_get (slice_set lanes (from * ranks + to) l) (f * ranks + u) ≡ Some m) same.1 h))

          elsewhere : (f t : ℕ) (m : LaneEnds) → t < ranks → ((f ≡ from) × (t ≡ to) → ⊥) → slice_get (slice_set lanes (from * ranks + to) l) (f * ranks + t) ≡ Some m → slice_get lanes (f * ranks + t) ≡ Some m
          elsewhere f t m t_in apart h =
              elim (slice_get-set lanes (from * ranks + to) l (f * ranks + t) m h)
              [ inl k ↦ absurd (apart (same_from_place f t from to ranks t_in to_in k.0)) | inr k ↦ k ]

  -- the ends of all lanes stay right as a letter is posted
  pub AreLanes-post : (ranks : ℕ) (past : List (Event P)) (next : List ℕ) (lanes : List LaneEnds) (from to : ℕ) (l : LaneEnds) (x : Letter P) (closes : Bool) → AreLanes ranks past next lanes
      → to < ranks → AreEnds past next from to l → length past ≤ length next → x.number ≡ l.posted → is_close x.body ≡ closes
      → AreLanes ranks (past ++ Sent from to x ∷ []) (next_after_post l (length past) next) (slice_set lanes (from * ranks + to) (after_post l (length past) closes))
  AreLanes-post ranks past next lanes from to l x closes a to_in ends room number close =
      AreLanes-one ranks past (Sent from to x) next (next_after_post l (length past) next) lanes from to (after_post l (length past) closes) a to_in
      (AreEnds-post past next from to l x closes ends room number close) elsewhere
    where
      elsewhere : (f t : ℕ) (m : LaneEnds) → ((f ≡ from) × (t ≡ to) → ⊥) → AreEnds past next f t m → AreEnds (past ++ Sent from to x ∷ []) (next_after_post l (length past) next) f t m
      elsewhere f t m other b =
          AreEnds-kept past (Sent from to x) next (next_after_post l (length past) next) f t m b (posts_on-elsewhere f t from to x past (other_lane f t from to other)) (takes_on-post f t from to x past)
          (λ y same. other (cc, cc))
          (λ p n h. next_elsewhere l (length past) next p (λ some at.
          let there = subst (λ (q : ℕ). IsPost past f t q n) at h in
          let same = IsPost-unique past f t from to l.newest n (l.posted - 1) there (ends.newest some) in
          other (same.0, same.1)))

  -- the ends of all lanes stay right as a letter is taken
  pub AreLanes-take : (ranks : ℕ) (past : List (Event P)) (next : List ℕ) (lanes : List LaneEnds) (from to : ℕ) (l : LaneEnds) (x : Letter P) → AreLanes ranks past next lanes
      → to < ranks → AreEnds past next from to l → l.taken < l.posted → AreLanes ranks (past ++ Got from to x ∷ []) next (slice_set lanes (from * ranks + to) (after_take l next))
  AreLanes-take ranks past next lanes from to l x a to_in ends some =
      AreLanes-one ranks past (Got from to x) next next lanes from to (after_take l next) a to_in (AreEnds-take past next from to l x ends some) elsewhere
    where
      elsewhere : (f t : ℕ) (m : LaneEnds) → ((f ≡ from) × (t ≡ to) → ⊥) → AreEnds past next f t m → AreEnds (past ++ Got from to x ∷ []) next f t m
      elsewhere f t m other b =
          AreEnds-kept past (Got from to x) next next f t m b (posts_on-take f t from to x past) (takes_on-elsewhere f t from to x past (other_lane f t from to other))
          (λ y same. cc)
          (λ p n h. refl)

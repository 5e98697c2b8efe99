-- A list of calls and their answers: what they say of the letters of a lane.
use Rattle.std.proofs.Common.{◌≡◌, ℕ, zero, suc, ◌⊎◌, ◌+◌, ◌<◌, ◌≤◌, Bool, true, false, ◌||◌, not, List, [], ◌∷◌, ◌++◌, length, take, drop, min, slice_index_or, None, All, refl, sym, ◌∙◌, ap, subst, arith, append_assoc, append-nil, ⊎_elim}
use Rattle.std.specs.Prelude.{AllPairs}
use Rattle.std.proofs.lemmas.Grind.{common_steps}
use Rattle.std.proofs.lemmas.List.{take-append-drop}
use Rattle.std.proofs.lemmas.List.Elements.{All-append, All-cons, All-weaker, filter-append}
use Rattle.std.proofs.lemmas.List.Kept.{AllPairs-cons}
use Rattle.cb_letters.specs.declared.Letter.{Letter}
use Rattle.cb_letters.specs.Letters.{is_close}
use Rattle.cb_letters.specs.Posted.{ends_closed, NothingAfterClose}
use Rattle.cb_letters.specs.Lane.{Lane, IsLane, IsAddressed, refusal, append, after_take, posted}
use Rattle.cb_letters.proofs.LaneLetters.{IsLane-append, IsLane-take}
use Rattle.cb_mailbox.specs.declared.calls.Call.{Call}
use Rattle.cb_mailbox.specs.Inbox.{Inbox, is_stranger, lane_from, HasLanes}
use Rattle.cb_mailbox.specs.Run.{after, answers_to, after_all}
use Rattle.cb_mailbox.specs.Exchanges.{accepted_on, taken_on, without_marks, AreTakenOnce, AreForAddressee, AreInPostingOrder, NothingAcceptedAfterClose, HasGivenOutAll}
use Rattle.cb_mailbox.proofs.Balance.{after_keeps, still_inside}
use Rattle.cb_mailbox.proofs.LaneSteps.{LaneStep, Stays, Accepts, HandsOut, lane_step}

or_none : (b : Bool) → b ≡ (b || false)
or_none true = refl
or_none false = refl

or_true : (a : Bool) → (a || true) ≡ true
or_true true = refl
or_true false = refl

true_or : (a b : Bool) → a ≡ true → (a || b) ≡ true
true_or true b e = refl
true_or false b e = absurd (let wrong : false ≡ true = e in cc)

module _ {P : Type 0} where
  -- the first letter has the lower number
  abbrev Earlier : Letter P → Letter P → Type 0
  Earlier x y = x.number < y.number

  -- the letter has a number from here up to there
  abbrev Between : ℕ → ℕ → Letter P → Type 0
  Between low high x = (low ≤ x.number) × (x.number < high)

  abbrev For : ℕ → ℕ → Letter P → Type 0
  For from to x = (x.from ≡ from) × (x.to ≡ to)

  -- a lane that accepts a letter is open
  open_lane : (l : Lane P) → refusal l ≡ None → l.closed ≡ false
  open_lane l e = by_cases l.closed refl
    where
      by_cases : (b : Bool) → l.closed ≡ b → l.closed ≡ false
      by_cases true f = absurd (grind (arith, common_steps, e, f))
      by_cases false f = f

  -- the letters that were taken from a lane, by number and address
  abbrev Fits : ℕ → ℕ → ℕ → ℕ → List (Letter P) → Type 0
  Fits from to low high xs = AllPairs Earlier xs × All (Between low high) xs × All (For from to) xs

  none_fit : (from to low high : ℕ) → Fits from to low high []
  none_fit from to low high = ((λ i j d before below. absurd (omega arith)), (λ k d below. absurd (omega arith)), (λ k d below. absurd (omega arith)))

  one_fits : (from to low : ℕ) (x : Letter P) → IsAddressed from to low x → Fits from to low (low + 1) (x ∷ [])
  one_fits from to low x h =
      let none = none_fit from to low (low + 1) in
      let numbered = h.numbered in
      let between : Between low (low + 1) x = (omega arith, omega arith) in
      ((λ i j d before below. absurd (omega arith)), All-cons (Between low (low + 1)) x [] between none.1, All-cons (For from to) x [] (h.sender, h.addressee) none.2)

  -- the oldest letter of a lane, unless it is a close mark
  oldest_fits : (from to taken : ℕ) (q : List (Letter P)) → ((k : ℕ) (d : Letter P) → k < length q → IsAddressed from to (taken + k) (slice_index_or q k d))
      → Fits from to taken (taken + min 1 (length q)) (without_marks (take 1 q))
  oldest_fits from to taken [] h = none_fit from to taken _
  oldest_fits from to taken (x ∷ xs) h = by_mark (is_close x.body) refl
    where
      first : IsAddressed from to taken x
      first = subst (λ n. IsAddressed from to n x) (omega arith) (h 0 x (omega arith))

      by_mark : (b : Bool) → is_close x.body ≡ b → Fits from to taken (taken + min 1 (suc (length xs))) (without_marks (x ∷ []))
      by_mark true b = rw b (none_fit from to taken _)
      by_mark false b = rw b (subst (λ n. Fits from to taken n (x ∷ [])) (omega arith) (one_fits from to taken x first))

  -- what holds of the letters that were accepted on a lane, and of those that were taken, between two of its states
  pub record Exchange (from to : ℕ) (l m : Lane P) (posts takes : List (Letter P)) : Type 0 where
    pub lane : IsLane from to m
    pub order : without_marks (l.queue ++ posts) ≡ takes ++ without_marks m.queue
    pub more : l.taken ≤ m.taken
    pub fits : Fits from to l.taken m.taken takes
    pub closed : l.closed ≡ true → posts ≡ []
    pub mark : NothingAfterClose posts
    pub ends : m.closed ≡ (l.closed || ends_closed posts)

  nothing_between : (from to : ℕ) (l : Lane P) → IsLane from to l → Exchange from to l l [] []
  nothing_between from to l h = record {
    lane = h;
    order = ap without_marks (append-nil l.queue);
    more = omega arith;
    fits = none_fit from to l.taken l.taken;
    closed = (λ c. refl);
    mark = (λ k below. absurd (omega arith));
    ends = or_none l.closed;
  }

  one_mark : (x : Letter P) → NothingAfterClose (x ∷ [])
  one_mark x k below = let none : k ≡ 0 = omega arith in rw none refl

  accepted_between : (from to : ℕ) (l : Lane P) (x : Letter P) → IsLane from to l → refusal l ≡ None → IsAddressed from to (posted l) x → Exchange from to l (append l x) (x ∷ []) []
  accepted_between from to l x h granted addressed = record {
    lane = IsLane-append from to l x h (open_lane l granted) addressed;
    order = refl;
    more = omega arith;
    fits = none_fit from to l.taken l.taken;
    closed = (λ c. absurd (let wrong : true ≡ false = sym c ∙ open_lane l granted in cc));
    mark = one_mark x;
    ends = refl;
  }

  taken_between : (from to : ℕ) (l : Lane P) → IsLane from to l → Exchange from to l (after_take l) [] (without_marks (take 1 l.queue))
  taken_between from to l h = record {
    lane = IsLane-take from to l h;
    order = ap without_marks (append-nil l.queue ∙ sym (take-append-drop 1 l.queue)) ∙ filter-append (λ x. not (is_close x.body)) (take 1 l.queue) (drop 1 l.queue);
    more = omega arith;
    fits = oldest_fits from to l.taken l.queue h.letters;
    closed = (λ c. refl);
    mark = (λ k below. absurd (omega arith));
    ends = or_none l.closed;
  }

  exchange_by : (from to : ℕ) (l m : Lane P) (posts takes : List (Letter P)) → IsLane from to l → LaneStep from to l m posts takes → Exchange from to l m posts takes
  exchange_by from to l m posts takes h step =
      ⊎_elim
      (λ (s : Stays l m posts takes). rw (s.lane, s.none, s.kept) (nothing_between from to l h))
      (λ (more : Accepts from to l m posts takes ⊎ HandsOut l m posts takes). ⊎_elim
      (λ (s : Accepts from to l m posts takes). rw (s.lane, s.one, s.kept) (accepted_between from to l s.letter h s.granted s.addressed))
      (λ (s : HandsOut l m posts takes). rw (s.lane, s.none, s.oldest) (taken_between from to l h))
      more)
      step

  -- lists of ascending numbers, the second above the first
  pairs_append : (low : ℕ) (xs ys : List (Letter P)) → All (λ x. x.number < low) xs → All (λ x. low ≤ x.number) ys → AllPairs Earlier xs → AllPairs Earlier ys → AllPairs Earlier (xs ++ ys)
  pairs_append low [] ys below above p q = q
  pairs_append low (x ∷ xs) ys below above p q =
      let first : x.number < low = below 0 x (omega arith) in
      let inside : All (Earlier x) xs = λ k d less. p 0 (suc k) d (omega arith) (omega arith) in
      let beyond : All (Earlier x) ys = λ k d less. (let high : low ≤ (slice_index_or ys k d).number = above k d less in omega arith) in
      let rest = pairs_append low xs ys (λ k d less. below (suc k) d (omega arith)) above (λ i j d before less. p (suc i) (suc j) d (omega arith) (omega arith)) q in
      AllPairs-cons Earlier x (xs ++ ys) (All-append (Earlier x) xs ys inside beyond) rest

  fits_both : (from to low mid high : ℕ) (xs ys : List (Letter P)) → low ≤ mid → mid ≤ high → Fits from to low mid xs → Fits from to mid high ys → Fits from to low high (xs ++ ys)
  fits_both from to low mid high xs ys a b f h = (
    pairs_append mid xs ys (All-weaker (Between low mid) (λ x. x.number < mid) (λ x w. w.1) xs f.1) (All-weaker (Between mid high) (λ x. mid ≤ x.number) (λ x w. w.0) ys h.1) f.0 h.0,
    All-append (Between low high) xs ys (All-weaker (Between low mid) (Between low high) (λ x w. (w.0, (let w1 = w.1 in omega arith))) xs f.1) (All-weaker (Between mid high) (Between low high) (λ x w. ((let w0 = w.0 in omega arith), w.1)) ys h.1),
    All-append (For from to) xs ys f.2 h.2,
  )

  cons_ends : (x : Letter P) (ys : List (Letter P)) → is_close x.body ≡ false → ends_closed ys ≡ false → ends_closed (x ∷ ys) ≡ false
  cons_ends x [] e f = e
  cons_ends x (y ∷ ys) e f = f

  -- letters that don't end with a close mark, followed by others
  mark_both : (xs ys : List (Letter P)) → ends_closed xs ≡ false → NothingAfterClose xs → NothingAfterClose ys → (k : ℕ) → k < length (xs ++ ys) → ends_closed (take k (xs ++ ys)) ≡ false
  mark_both [] ys e f h k below = h k below
  mark_both (x ∷ []) ys e f h zero below = refl
  mark_both (x ∷ []) ys e f h (suc k) below = cons_ends x (take k ys) e (h k (omega arith))
  mark_both (x ∷ (z ∷ zs)) ys e f h zero below = refl
  mark_both (x ∷ (z ∷ zs)) ys e f h (suc zero) below = f 1 (omega arith)
  mark_both (x ∷ (z ∷ zs)) ys e f h (suc (suc k)) below = mark_both (z ∷ zs) ys e inner h (suc k) (omega arith)
    where
      inner : (j : ℕ) → j < length (z ∷ zs) → ends_closed (take j (z ∷ zs)) ≡ false
      inner zero less = refl
      inner (suc j) less = f (suc (suc j)) (omega arith)

  -- letters that don't end with a close mark, followed by others, end as these do
  ends_both : (xs ys : List (Letter P)) → ends_closed xs ≡ false → ends_closed (xs ++ ys) ≡ ends_closed ys
  ends_both [] ys e = refl
  ends_both (x ∷ []) [] e = e
  ends_both (x ∷ []) (y ∷ ys) e = refl
  ends_both (x ∷ (z ∷ zs)) ys e = ends_both (z ∷ zs) ys e

  order_both : (q ps qs ts us m n : List (Letter P)) → without_marks (q ++ ps) ≡ ts ++ without_marks m → without_marks (m ++ qs) ≡ us ++ without_marks n
      → without_marks (q ++ (ps ++ qs)) ≡ (ts ++ us) ++ without_marks n
  order_both q ps qs ts us m n e f =
      let kept = λ (x : Letter P). not (is_close x.body) in
      ap without_marks (sym (append_assoc q ps qs))
      ∙ filter-append kept (q ++ ps) qs
      ∙ ap (λ (xs : List (Letter P)). xs ++ without_marks qs) e
      ∙ append_assoc ts (without_marks m) (without_marks qs)
      ∙ ap (λ (xs : List (Letter P)). ts ++ xs) (sym (filter-append kept m qs) ∙ f)
      ∙ sym (append_assoc ts us (without_marks n))

  closes_both : (from to : ℕ) (l m n : Lane P) (ps qs ts us : List (Letter P)) → Exchange from to l m ps ts → Exchange from to m n qs us
      → NothingAfterClose (ps ++ qs) × (n.closed ≡ (l.closed || ends_closed (ps ++ qs)))
  closes_both from to l m n ps qs ts us a b = by_end (ends_closed ps) refl
    where
      by_end : (c : Bool) → ends_closed ps ≡ c → NothingAfterClose (ps ++ qs) × (n.closed ≡ (l.closed || ends_closed (ps ++ qs)))
      by_end true c =
          let shut : m.closed ≡ true = a.ends ∙ ap (λ d. l.closed || d) c ∙ or_true l.closed in
          let none = b.closed shut in
          rw (none, append-nil) (a.mark, b.ends ∙ ap (λ d. d || ends_closed qs) shut ∙ sym (ap (λ d. l.closed || d) c ∙ or_true l.closed))
      by_end false c = (
        mark_both ps qs c a.mark b.mark,
        b.ends ∙ ap (λ d. d || ends_closed qs) (a.ends ∙ ap (λ d. l.closed || d) c ∙ sym (or_none l.closed)) ∙ ap (λ d. l.closed || d) (sym (ends_both ps qs c)),
      )

  -- one exchange after another
  exchange_both : (from to : ℕ) (l m n : Lane P) (ps qs ts us : List (Letter P)) → Exchange from to l m ps ts → Exchange from to m n qs us → Exchange from to l n (ps ++ qs) (ts ++ us)
  exchange_both from to l m n ps qs ts us a b =
      let closes = closes_both from to l m n ps qs ts us a b in
      let one = a.more in
      let two = b.more in
      record {
        lane = b.lane;
        order = order_both l.queue ps qs ts us m.queue n.queue a.order b.order;
        more = omega arith;
        fits = fits_both from to l.taken m.taken n.taken ts us a.more b.more a.fits b.fits;
        closed = (λ c. let none = a.closed c in rw none (b.closed (a.ends ∙ true_or l.closed (ends_closed ps) c)));
        mark = closes.0;
        ends = closes.1;
      }

  abbrev step_of : (box : Inbox P) (cs : List (Call P)) (from : ℕ) → Type 0
  step_of box cs from = Exchange from box.me (lane_from box from) (lane_from (after_all box cs) from) (accepted_on from box.me cs (answers_to box cs)) (taken_on from cs (answers_to box cs))

  later_lanes : (box : Inbox P) (c : Call P) → HasLanes box → HasLanes (after box c)
  later_lanes box c h from inside =
      let k = after_keeps box c in
      let known : is_stranger box from ≡ false = rw (sym k.0, sym k.1) inside in
      rw k.0 (exchange_by from box.me _ _ _ _ (h from known) (lane_step box c from known)).lane

  -- a list of calls on a mailbox, lane by lane
  pub exchange : (box : Inbox P) (cs : List (Call P)) (from : ℕ) → HasLanes box → is_stranger box from ≡ false → step_of box cs from
  exchange box [] from h inside = nothing_between from box.me (lane_from box from) (h from inside)
  exchange box (c ∷ cs) from h inside =
      let first = exchange_by from box.me _ _ _ _ (h from inside) (lane_step box c from inside) in
      let rest = rw (after_keeps box c).0 at (exchange (after box c) cs from (later_lanes box c h) (still_inside box c from inside)) in
      exchange_both from box.me _ _ _ _ _ _ _ first rest

  pub taken_once : (box : Inbox P) (cs : List (Call P)) → HasLanes box → AreTakenOnce box (after_all box cs) cs (answers_to box cs)
  taken_once box cs h from inside = let e = exchange box cs from h inside in (e.fits.0, e.fits.1)

  pub for_addressee : (box : Inbox P) (cs : List (Call P)) → HasLanes box → AreForAddressee box cs (answers_to box cs)
  for_addressee box cs h from inside = (exchange box cs from h inside).fits.2

  pub in_posting_order : (box : Inbox P) (cs : List (Call P)) → HasLanes box → AreInPostingOrder box (after_all box cs) cs (answers_to box cs)
  in_posting_order box cs h from inside = (exchange box cs from h inside).order

  pub nothing_after_close : (box : Inbox P) (cs : List (Call P)) → HasLanes box → NothingAcceptedAfterClose box cs (answers_to box cs)
  nothing_after_close box cs h from inside = let e = exchange box cs from h inside in (e.closed, e.mark)

  pub given_out : (box : Inbox P) (cs : List (Call P)) → HasLanes box → HasGivenOutAll box (after_all box cs) cs (answers_to box cs)
  given_out box cs h from inside drained =
      let e = exchange box cs from h inside in
      sym (e.order ∙ ap (λ (q : List (Letter P)). taken_on from cs (answers_to box cs) ++ without_marks q) drained.1 ∙ append-nil _)

-- Trees of vertices: one more vertex, a shorter path, and two trees that become one.
use Rattle.std.proofs.Common.{◌≡◌, ◌≢◌, ℕ, ◌<◌, ◌≤◌, cond, ⊎_elim, List, [], ◌∷◌, ◌++◌, subst, sym, refl, ap, ◌∙◌, arith}
use Rattle.std.specs.Prelude.{◌==◌}
use Rattle.std.proofs.lemmas.Bool.{cases_eq, cond-true, cond-false, eq-eqb, ne_eqb}
use Rattle.std.proofs.lemmas.Option.{none-some, same_Some}
use Rattle.cb_semirings.specs.Tables.{or_and}
use Rattle.cb_matrix.specs.Sparse.{Sparse, at}
use Rattle.cb_searches.specs.Walks.{IsWalk, infinite}
use Rattle.cb_searches.proofs.WalkCosts.{walk_here, walk_more, walk_edge, walk_rest, walk_first}
use Rattle.cb_graphs.specs.Components.{undirected, IsUndirected, HasEntry, AreJoined}
use Rattle.cb_graphs.specs.Forests.{IsConstant, AreInOneTree, AreTrees, KeepsTrees, IsFlat, IsShortened}

-- ---- vertices that are joined
-- a vertex is joined to itself
pub joined_self : (a : Sparse) (v : ℕ) → AreJoined a v v
joined_self a v = (v ∷ [], walk_here or_and (undirected a) v)

-- and to where an edge leads
pub joined_more : (a : Sparse) (u v w : ℕ) → AreJoined a u v → at or_and (undirected a) v w ≢ 0 → AreJoined a u w
joined_more a u v w h edge = (h.0 ++ w ∷ [], walk_more or_and (undirected a) u v w h.0 h.1 edge)

joined_along : (a : Sparse) (u v w : ℕ) (walk : List ℕ) → AreJoined a u v → IsWalk or_and (undirected a) v w walk → AreJoined a u w
joined_along a u v w [] h is = absurd (none-some v is.begins)
joined_along a u v w (x ∷ []) h is = subst (AreJoined a u) (sym (same_Some x v is.begins) ∙ same_Some x w is.ends) h
joined_along a u v w (x ∷ y ∷ ys) h is =
    let here : AreJoined a u x = subst (AreJoined a u) (sym (walk_first or_and (undirected a) v w x (y ∷ ys) is)) h in
    joined_along a u y w (y ∷ ys) (joined_more a u x y here (walk_edge or_and (undirected a) v w x y ys is)) (walk_rest or_and (undirected a) v w x y ys is)

-- a walk and then another
pub joined_trans : (a : Sparse) (u v w : ℕ) → AreJoined a u v → AreJoined a v w → AreJoined a u w
joined_trans a u v w h k = joined_along a u v w k.0 h k.1

back_along : (a : Sparse) → IsUndirected (undirected a) → (u v : ℕ) (walk : List ℕ) → IsWalk or_and (undirected a) u v walk → AreJoined a v u
back_along a both u v [] is = absurd (none-some u is.begins)
back_along a both u v (x ∷ []) is = subst (λ (z : ℕ). AreJoined a z u) (sym (same_Some x u is.begins) ∙ same_Some x v is.ends) (joined_self a u)
back_along a both u v (x ∷ y ∷ ys) is =
    let later : AreJoined a v y = back_along a both y v (y ∷ ys) (walk_rest or_and (undirected a) u v x y ys is) in
    subst (AreJoined a v) (walk_first or_and (undirected a) u v x (y ∷ ys) is) (joined_more a v y x later (both x y (walk_edge or_and (undirected a) u v x y ys is)))

-- and back
pub joined_back : (a : Sparse) → IsUndirected (undirected a) → (u v : ℕ) → AreJoined a u v → AreJoined a v u
joined_back a both u v h = back_along a both u v h.0 h.1

-- two vertices that are joined to the same one
pub joined_to : (a : Sparse) → IsUndirected (undirected a) → (u v w : ℕ) → AreJoined a u v → AreJoined a w v → AreJoined a u w
joined_to a both u v w h k = joined_trans a u v w h (joined_back a both w v k)

-- ---- vertices in one tree
pub tree_self : (p : ℕ → ℕ) (v : ℕ) → p v ≢ infinite → AreInOneTree p v v
tree_self p v some = record { first = some; second = some; same = λ label c. refl }

pub tree_back : (p : ℕ → ℕ) (u v : ℕ) → AreInOneTree p u v → AreInOneTree p v u
tree_back p u v h = record { first = h.second; second = h.first; same = λ label c. sym (h.same label c) }

pub tree_trans : (p : ℕ → ℕ) (u v w : ℕ) → AreInOneTree p u v → AreInOneTree p v w → AreInOneTree p u w
tree_trans p u v w h k = record { first = h.first; second = k.second; same = λ label c. h.same label c ∙ k.same label c }

-- a vertex and its parent
pub tree_parent : (p : ℕ → ℕ) (v x : ℕ) → p v ≡ x → p v ≢ infinite → p x ≢ infinite → AreInOneTree p v x
tree_parent p v x is some there = record { first = some; second = there; same = λ label c. sym (c v some) ∙ ap label is }

-- they stay in one tree
pub tree_kept : (p q : ℕ → ℕ) → KeepsTrees p q → (u v : ℕ) → AreInOneTree p u v → AreInOneTree q u v
tree_kept p q keeps u v h = record { first = keeps.kept u h.first; second = keeps.kept v h.second; same = λ label c. h.same label (keeps.constant label c) }

pub keeps_self : (p : ℕ → ℕ) → KeepsTrees p p
keeps_self p = record { kept = λ v some. some; constant = λ label c. c }

pub keeps_trans : (p q r : ℕ → ℕ) → KeepsTrees p q → KeepsTrees q r → KeepsTrees p r
keeps_trans p q r h k = record { kept = λ v some. k.kept v (h.kept v some); constant = λ label c. h.constant label (k.constant label c) }

-- ---- shorter paths
pub short_self : (p : ℕ → ℕ) → IsShortened p p
short_self p = record { trees = keeps_self p; known = λ v some. some; flat = λ v some f. refl }

-- a root stays a root
pub root_stays : (p q : ℕ → ℕ) → IsShortened p q → (r : ℕ) → p r ≡ r → r ≢ infinite → q r ≡ r
root_stays p q short r root finite = short.flat r (λ z. finite (sym root ∙ z)) (ap p root) ∙ root

-- a vertex whose parent is a root stays one
pub flat_stays : (p q : ℕ → ℕ) → IsShortened p q → (v : ℕ) → p v ≢ infinite → IsFlat p v → IsFlat q v
flat_stays p q short v some flat =
    let same : q v ≡ p v = short.flat v some flat in
    ap q same ∙ root_stays p q short (p v) flat some ∙ sym same

pub short_trans : (p q r : ℕ → ℕ) → IsShortened p q → IsShortened q r → IsShortened p r
short_trans p q r h k = record {
  trees = keeps_trans p q r h.trees k.trees;
  known = λ v some. h.known v (k.known v some);
  flat = λ v some f. k.flat v (h.trees.kept v some) (flat_stays p q h v some f) ∙ h.flat v some f;
}

-- ---- one vertex gets another parent
module _ (p q : ℕ → ℕ) (v x : ℕ) (set : (w : ℕ) → q w ≡ cond (w == v) x (p w)) where
  pub set_here : q v ≡ x
  set_here = set v ∙ cond-true _ _ _ (eq-eqb v v refl)

  pub set_there : (w : ℕ) → w ≢ v → q w ≡ p w
  set_there w other = set w ∙ cond-false _ _ _ (ne_eqb w v other)

  was : (w : ℕ) → w ≢ v → q w ≢ infinite → p w ≢ infinite
  was w other some z = some (set_there w other ∙ z)

  module _ (finite : x ≢ infinite) where
    some_now : (w : ℕ) → (w ≢ v → p w ≢ infinite) → q w ≢ infinite
    some_now w h = ⊎_elim
        (λ (e : w ≡ v). λ z. finite (sym set_here ∙ sym (ap q e) ∙ z))
        (λ (n : w ≡ v → ⊥). λ z. h n (sym (set_there w n) ∙ z))
        (cases_eq w v)

    -- the trees stay, if it stays in that of its old parent
    pub set_keeps : ((label : ℕ → ℕ) → IsConstant q label → p v ≢ infinite → label (p v) ≡ label v) → KeepsTrees p q
    set_keeps h = record {
      kept = λ w some. some_now w (λ _. some);
      constant = λ label c w some. ⊎_elim
          (λ (e : w ≡ v). subst (λ (y : ℕ). label (p y) ≡ label y) (sym e) (h label c (subst (λ (y : ℕ). p y ≢ infinite) e some)))
          (λ (n : w ≡ v → ⊥). subst (λ (y : ℕ). label y ≡ label w) (set_there w n) (c w (λ z. some (sym (set_there w n) ∙ z))))
          (cases_eq w v);
    }

    -- they are trees again
    pub set_trees : (a : Sparse) → AreTrees a p → x ≤ v → v < a.shape.rows → HasEntry a v → AreJoined a x v → (x ≢ v → p x ≢ infinite) → AreTrees a q
    set_trees a is low inside entry joined above = record {
      inside = λ w some. ⊎_elim (λ (e : w ≡ v). omega (arith, e, inside)) (λ (n : w ≡ v → ⊥). is.inside w (was w n some)) (cases_eq w v);
      entered = λ w some. ⊎_elim (λ (e : w ≡ v). subst (HasEntry a) (sym e) entry) (λ (n : w ≡ v → ⊥). is.entered w (was w n some)) (cases_eq w v);
      low = λ w some. ⊎_elim
          (λ (e : w ≡ v). omega (arith, e, ap q e, set_here, low))
          (λ (n : w ≡ v → ⊥). omega (arith, set_there w n, is.low w (was w n some)))
          (cases_eq w v);
      joined = λ w some. ⊎_elim
          (λ (e : w ≡ v). subst (λ (y : ℕ). AreJoined a y w) (sym (ap q e ∙ set_here)) (subst (AreJoined a x) (sym e) joined))
          (λ (n : w ≡ v → ⊥). subst (λ (y : ℕ). AreJoined a y w) (sym (set_there w n)) (is.joined w (was w n some)))
          (cases_eq w v);
      closed = λ w some. ⊎_elim
          (λ (e : w ≡ v). subst (λ (y : ℕ). q y ≢ infinite) (sym (ap q e ∙ set_here)) (some_now x above))
          (λ (n : w ≡ v → ⊥). subst (λ (y : ℕ). q y ≢ infinite) (sym (set_there w n)) (some_now (p w) (λ _. is.closed w (was w n some))))
          (cases_eq w v);
    }

-- ---- a vertex that was in no tree becomes one
module _ (p q : ℕ → ℕ) (v : ℕ) (set : (w : ℕ) → q w ≡ cond (w == v) v (p w)) (none : p v ≡ infinite) (finite : v ≢ infinite) where
  pub planted_trees : (a : Sparse) → AreTrees a p → v < a.shape.rows → HasEntry a v → AreTrees a q
  planted_trees a is inside entry = set_trees p q v v set finite a is (omega arith) inside entry (joined_self a v) (λ n. absurd (n refl))

  pub planted_keeps : KeepsTrees p q
  planted_keeps = set_keeps p q v v set finite (λ label c some. absurd (some none))

  -- it is a root
  pub planted_root : q v ≡ v
  planted_root = set_here p q v v set

  pub planted_alone : AreInOneTree q v v
  planted_alone = tree_self q v (λ z. finite (sym planted_root ∙ z))

  -- the other roots stay
  pub planted_roots : (r : ℕ) → p r ≡ r → r < infinite → q r ≡ r
  planted_roots r root l = ⊎_elim
      (λ (e : r ≡ v). ap q e ∙ planted_root ∙ sym e)
      (λ (n : r ≡ v → ⊥). set_there p q v v set r n ∙ root)
      (cases_eq r v)

-- ---- the parent of a vertex's parent becomes its parent
module _ (p q : ℕ → ℕ) (v : ℕ) (set : (w : ℕ) → q w ≡ cond (w == v) (p (p v)) (p w)) (a : Sparse) (is : AreTrees a p) (some : p v ≢ infinite) where
  pub shorter_trees : AreTrees a q
  shorter_trees =
      set_trees p q v (p (p v)) set (is.closed v some) a is (let k = is.low v some in let l = is.low (p v) (is.closed v some) in omega arith) (is.inside v some) (is.entered v some)
      (joined_trans a (p (p v)) (p v) v (is.joined (p v) (is.closed v some)) (is.joined v some)) (λ _. is.closed (p v) (is.closed v some))

  constant_still : (label : ℕ → ℕ) → IsConstant q label → label (p v) ≡ label v
  constant_still label c = ⊎_elim
      (λ (e : p v ≡ v). ap label e)
      (λ (n : p v ≡ v → ⊥).
      let there : q (p v) ≡ p (p v) = set_there p q v (p (p v)) set (p v) n in
      let here : q v ≡ p (p v) = set_here p q v (p (p v)) set in
      let above : label (q (p v)) ≡ label (p v) = c (p v) (λ z. is.closed v some (sym there ∙ z)) in
      let below : label (q v) ≡ label v = c v (λ z. is.closed v some (sym here ∙ z)) in
      sym above ∙ ap label there ∙ sym (ap label here) ∙ below)
      (cases_eq (p v) v)

  pub shorter : IsShortened p q
  shorter = record {
    trees = set_keeps p q v (p (p v)) set (is.closed v some) (λ label c _. constant_still label c);
    known = λ w now. ⊎_elim
        (λ (e : w ≡ v). subst (λ (y : ℕ). p y ≢ infinite) (sym e) some)
        (λ (n : w ≡ v → ⊥). λ z. now (set_there p q v (p (p v)) set w n ∙ z))
        (cases_eq w v);
    flat = λ w _ f. ⊎_elim
        (λ (e : w ≡ v). ap q e ∙ set_here p q v (p (p v)) set ∙ sym (ap (λ (y : ℕ). p (p y)) e) ∙ f)
        (λ (n : w ≡ v → ⊥). set_there p q v (p (p v)) set w n)
        (cases_eq w v);
  }

-- ---- a root gets another root as its parent
module _ (p q : ℕ → ℕ) (r x : ℕ) (set : (w : ℕ) → q w ≡ cond (w == r) x (p w)) (less : x < r) (finite : r < infinite) (root : p r ≡ r) (above : p x ≡ x) where
  some_root : p r ≢ infinite
  some_root z = omega (arith, z, root, finite)

  pub hooked_trees : (a : Sparse) → AreTrees a p → AreJoined a x r → AreTrees a q
  hooked_trees a is joined = set_trees p q r x set (omega arith) a is (omega arith) (is.inside r some_root) (is.entered r some_root) joined (λ _ z. omega (arith, z, above))

  pub hooked_keeps : KeepsTrees p q
  hooked_keeps = set_keeps p q r x set (omega arith) (λ label c _. ap label root)

  -- the other one is the root of both
  pub hooked_root : q x ≡ x
  hooked_root = set_there p q r x set x (omega arith) ∙ above

  pub hooked_same : AreInOneTree q r x
  hooked_same = tree_parent q r x (set_here p q r x set) (λ z. omega (arith, z, set_here p q r x set)) (λ z. omega (arith, z, hooked_root))

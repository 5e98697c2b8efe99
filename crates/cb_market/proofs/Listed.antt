-- Entries in the blocks of a grid, or in a list.
use Rattle.std.proofs.Common.{◌≡◌, ℕ, List, [], ◌++◌, refl, sym, ap, subst, ◌∙◌}
use Rattle.std.specs.Prelude.{Result, Ok, Err, IfOk}
use Rattle.std.proofs.lemmas.List.{append-nil}
use Rattle.cb_semirings.specs.Arithmetic.{Arithmetic, IsSemiring}
use Rattle.cb_matrix.specs.declared.Entry.{Entry}
use Rattle.cb_matrix.specs.Sparse.{Sparse, IsMatrix}
use Rattle.cb_matrix.specs.Values.{collected}
use Rattle.cb_layout.specs.Distributed.{Distributed}
use Rattle.cb_market.specs.Gathered.{Listed}
use Rattle.cb_market_lines.proofs.OwnEntries.{own_entries}

-- a matrix over a grid, if memory for it is there, is equal to another
pub ok_equal : {E : Type 0} (r : Result Distributed E) (d e : Distributed) → IfOk r (λ m. m ≡ d) → d ≡ e → IfOk r (λ m. m ≡ e)
ok_equal (Ok m) d e h k = h ∙ k
ok_equal (Err x) d e h k = h

-- if the list is empty, the blocks have the matrix of the entries
pub all_in_blocks : (s : Arithmetic) (laws : IsSemiring s) (side room : ℕ) (m : Sparse) (list : List Entry) (g : Listed) → IsMatrix s m → record { side = side; shape = m.shape; room = room; entries = m.entries ++ list } ≡ g → list ≡ [] → (side ≡ g.side) × (m ≡ collected s g.shape g.entries)
all_in_blocks s laws side room m list g h v e =
    subst (λ (k : Listed). (side ≡ k.side) × (m ≡ collected s k.shape k.entries)) v
    (refl, own_entries s laws m h ∙ ap (collected s m.shape) (sym (ap (λ (es : List Entry). m.entries ++ es) e ∙ append-nil m.entries)))

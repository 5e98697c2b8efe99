-- What is sent of a letter is a message.
use Rattle.std.proofs.Common.{◌≡◌, ℕ, ◌<◌, ◌≤◌, length, get_or, refl, sym, ap, subst, ◌∙◌, ⊎_elim, inl, inr, arith}
use Rattle.std.specs.Prelude.{All}
use Rattle.std.proofs.lemmas.Bool.{cases_lt}
use Rattle.cb_semirings.specs.Arithmetic.{Arithmetic}
use Rattle.cb_matrix.specs.declared.TheConstants.{LIMIT}
use Rattle.cb_matrix.specs.Sparse.{Sparse, Extent, IsMatrix}
use Rattle.cb_dcsc.specs.Columns.{columns_with_entries}
use Rattle.cb_dcsc.proofs.Held.{columns_are, rows_are, values_are, nth_column_rows}
use Rattle.cb_dcsc.proofs.Lookup.{ascending_rows, all_rows_inside, all_values}
use Rattle.cb_dcsc.proofs.NumbersOfColumns.{columns_inside}
use Rattle.cb_letters.specs.declared.Body.{Body}
use Rattle.cb_letters.specs.declared.Body.TheVariants as body_is
use Rattle.cb_letters.specs.declared.Letter.{Letter}
use Rattle.cb_lists.specs.declared.lists.Columns.{Columns}
use Rattle.cb_lists.specs.Lists.{HasStarts, AreLists, HasLists}
use Rattle.cb_messages.specs.declared.heads.Head.{Head}
use Rattle.cb_messages.specs.Messages.{kind_of, origin_of, AreListsOf, HasSizes, IsMessage, IsSentAs, SheetFits}

module _ (s : Arithmetic) (m : Sparse) (c : Columns) (is : IsMatrix s m) (has : HasLists m c) (rows_fit : m.shape.rows ≤ LIMIT) (cols_fit : m.shape.cols ≤ LIMIT) where
  -- the same lists, whose kind and width are seen
  abbrev d : Columns
  d = record c { kind = 0; wide = 1 }

  starts_enough : HasStarts d
  starts_enough =
      ⊎_elim
      (λ (l : 0 < length c.columns.now). inl (has.columns.one_more_start l))
      (λ (l : length c.columns.now ≤ 0). let none : length c.columns.now ≡ 0 = omega arith in inr (refl, none, has.columns.no_starts none))
      (cases_lt 0 (length c.columns.now))

  rows_is : c.nrows ≡ m.shape.rows
  rows_is = ap (λ (x : Extent). x.rows) has.shape

  cols_is : c.ncols ≡ m.shape.cols
  cols_is = ap (λ (x : Extent). x.cols) has.shape

  numbers : c.columns.now ≡ columns_with_entries m.entries
  numbers = columns_are c.columns.now c.starts64.now c.rows.now c.values.now m.entries has.columns has.entries

  each_column : (n : ℕ) → n < length c.columns.now → n < length (columns_with_entries m.entries)
  each_column n l = subst (λ xs. n < length xs) numbers l

  well_formed : AreLists s d
  well_formed = record {
    form = (omega arith, omega arith);
    fits = (let e = rows_is in omega arith, let e = cols_is in omega arith);
    lengths = record { enough = starts_enough; first = has.columns.first; last = has.columns.last; same_length = has.columns.same_length };
    ordered = record {
      rising = λ n l. let up = has.columns.rising n l in omega arith;
      columns = λ _. has.columns.ascending;
      rows = λ n l. ascending_rows s m (get_or (columns_with_entries m.entries) n 0) _ is (nth_column_rows c.columns.now c.starts64.now c.rows.now c.values.now m.entries has.columns has.entries n (each_column n l));
    };
    inside = record {
      columns = λ _. subst (λ k. All (λ j. j < k) c.columns.now) (sym cols_is) (columns_inside s m c.columns.now is numbers);
      rows = subst (λ k. All (λ i. i < k) c.rows.now) (sym rows_is) (all_rows_inside s m c.rows.now is (rows_are c.columns.now c.starts64.now c.rows.now c.values.now m.entries has.columns has.entries));
    };
    values = all_values s m c.values.now is (values_are c.columns.now c.starts64.now c.rows.now c.values.now m.entries has.columns has.entries);
  }

  pub are_lists : AreLists s c
  are_lists = subst (AreLists s) (λ i. record c { kind = sym has.kind i; wide = sym has.wide i }) well_formed

sent_lists : (s : Arithmetic) (body : Body Sparse) (lists : Columns) → SheetFits body → AreListsOf s body lists → kind_of body ≡ 0 → AreLists s lists
sent_lists s (body_is.Sheet m) lists fits are kind = are_lists s m lists are.0 are.1 fits.0 fits.1
sent_lists s (body_is.Lost origin) lists fits are kind = absurd (omega arith)
sent_lists s body_is.Close lists fits are kind = absurd (omega arith)

kinds : (body : Body Sparse) → kind_of body ≤ 2
kinds (body_is.Sheet m) = omega arith
kinds (body_is.Lost origin) = omega arith
kinds body_is.Close = omega arith

-- a head and lists that are sent of a letter are a message
pub sent_is_message : (s : Arithmetic) (x : Letter Sparse) (head : Head) (lists : Columns) → HasSizes x → IsSentAs s x head lists → IsMessage s head lists
sent_is_message s x head lists sizes sent =
    let kind : head.kind ≡ kind_of x.body = ap (λ h. h.kind) sent.head_is in
    let from : head.from ≡ x.from = ap (λ h. h.from) sent.head_is in
    let to : head.to ≡ x.to = ap (λ h. h.to) sent.head_is in
    let origin : head.origin ≡ origin_of x.body = ap (λ h. h.origin) sent.head_is in
    let low = kinds x.body in
    let a = sizes.from in
    let b = sizes.to in
    let o = sizes.origin in
    record {
      head_is = record { from = omega arith; to = omega arith; kind = omega arith; origin = omega arith; reserved = ap (λ h. h.reserved) sent.head_is };
      lists_are = λ z. sent_lists s x.body lists sizes.sheet sent.lists_are (sym kind ∙ z);
    }

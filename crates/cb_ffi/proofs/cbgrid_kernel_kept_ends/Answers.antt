use Rattle.std.proofs.Common.{refl}
use Rattle.cb_ffi.specs.KeptCalls.{IsEntryEndsCall, IsProductEndsCall}
use Rattle.cb_ffi.proofs.EndsCalls.{as_many_ends, ends_call_of}
use Rattle.cb_ffi.proofs.cbgrid_kernel_kept_ends.Goals as goal

pub put_ends-requires : goal.put_ends-requires
put_ends-requires c = as_many_ends _ _ _ _ _ refl c.kept_entry_ends-by_entries.ensures

pub returns-then-by_products-eq0 : goal.returns-then-by_products-eq0
unfolding IsEntryEndsCall
returns-then-by_products-eq0 c = record {
  entries = λ _. rw (← c.borrowed-a.ensures) (rw (← c.borrowed-b.ensures)
      (ends_call_of _ _ _ _ _ _ _ refl c.kept_entry_ends-by_entries.ensures c.put_ends.ensures.ok c.put_ends.ensures.refused));
  products = λ n. absurd (n c.if-by_products-eq0.true);
}

pub returns : goal.returns
unfolding IsProductEndsCall
returns c = record {
  entries = λ e. absurd (c.if-by_products-eq0.false e);
  products = λ _. rw (← c.borrowed-a.ensures) (rw (← c.borrowed-b.ensures)
      (ends_call_of _ _ _ _ _ _ _ refl c.kept_ends-answer.ensures c.put_ends-2.ensures.ok c.put_ends-2.ensures.refused));
}

use Rattle.std.proofs.Common.{◌≡◌, length, take, ◌∙◌, arith}
use Rattle.std.proofs.lemmas.List.{get_or-take, length-take-le}
use Rattle.cb_selections.proofs.RowKeys.{entries_within, keys_listed}
use Rattle.cb_selections.proofs.sorted_rows.write_sorted.Goals as goal

pub read_keys-requires-clause-entries : goal.read_keys-requires-clause-entries
read_keys-requires-clause-entries c =
    entries_within c.args.listed.now c.args.rows.now c.args.values.now (take c.sort_keys-count.result c.sort_keys-count.new.keys) c.requires.count c.sort_keys-count.ensures.keys

pub returns-clause-listed : goal.returns-clause-listed
returns-clause-listed c =
    let r = c.requires in
    let count = c.sort_keys-count.result in
    let sorted = c.sort_keys-count.ensures in
    let keys = take count c.sort_keys-count.new.keys in
    let read = c.read_keys.ensures in
    let ks = c.read_keys.new.kept_rows in
    let ws = c.read_keys.new.kept_values in
    let most = sorted.most in
    let size : length keys ≡ count = length-take-le count c.sort_keys-count.new.keys (omega (arith, most, sorted.room, r.keys_room)) in
    let rows_size = length-take-le count ks (omega (arith, most, read.rows_length, r.rows_room)) in
    let values_size = length-take-le count ws (omega (arith, most, read.values_length, r.values_room)) in
    keys_listed c.args.listed.now c.args.rows.now c.args.values.now keys (take count ks) (take count ws) r.count r.rows sorted.keys sorted.ascending
    (omega (arith, rows_size, size)) (omega (arith, values_size, size))
    (λ m l. get_or-take count ks m 0 (omega (arith, l, size)) ∙ read.rows m l)
    (λ m l. get_or-take count ws m 0 (omega (arith, l, size)) ∙ read.values m l)

use Rattle.std.proofs.Common.{◌≡◌, ◌∙◌, refl, sym, ◌++◌, ◌+◌, ◌-◌, ap, List, [], ◌∷◌, codes, drop, length, map, string_bytes, subst, take, rules, IfOk, Some}
use Rattle.std.specs.Borrow.{Bor}
use Rattle.std.specs.List.{slice_index_or}
use Rattle.std.proofs.lemmas.List.{length-drop, map-append}
use Rattle.std.proofs.Math.Seq.{take-length}
use Rattle.clap.specs.Walk.{Text, texts}
use Rattle.cb_command_line.specs.Lines.{IsReadAs, joined_at}
use Rattle.cb_command_line.proofs.NegativeLemmas.{joined_is}
use Rattle.cb_command_line.proofs.words.read_joined.Goals as goal

pub returns-clause-asked : goal.returns-clause-asked
returns-clause-asked c =
    let none : c.in_ok-joined.joined.items ≡ [] = c.in_ok-joined.ensures.items in
    let first : texts c.push_words.new.all.items ≡ texts c.in_ok-joined.joined.items ++ map string_bytes (take c.args.place c.args.words.now) = c.in_ok-push_words.ensures in
    let next : c.push.new.self.items ≡ c.push_words.new.all.items ++ c.as_str-2.result ∷ [] = c.in_ok-push.ensures.items in
    let last : texts c.push_words-2.new.all.items ≡ texts c.push.new.self.items ++ map string_bytes (take (length c.args.words.now - (c.args.place + 2)) (drop (c.args.place + 2) c.args.words.now)) = c.in_ok-push_words-2.ensures in
    let number : c.as_str-2.result.now ≡ codes "--diagonal=" ++ string_bytes c.index-words-place.result = search rules in
    let at : c.index-words-place.result ≡ slice_index_or c.args.words.now (c.args.place + 1) c.index-words-place.result = c.index-words-place.is in
    let whole : c.as_slice.result.now ≡ c.push_words-2.new.all.items = c.as_slice.ensures.value in
    let asked : IfOk c.read_words.result (IsReadAs c.args.processors (texts c.as_slice.result.now)) = c.read_words.ensures.asked in
    let back : List Text = map string_bytes (take (length c.args.words.now - (c.args.place + 2)) (drop (c.args.place + 2) c.args.words.now)) in
    let front : List Text = map string_bytes (take c.args.place c.args.words.now) in
    let so_far : texts c.push_words.new.all.items ≡ front = first ∙ ap (λ (xs : List (Bor Text)). texts xs ++ front) none in
    let two : texts c.push.new.self.items ≡ front ++ c.as_str-2.result.now ∷ [] =
    ap texts next ∙ map-append (λ (s : Bor Text). s.now) c.push_words.new.all.items (c.as_str-2.result ∷ []) ∙ ap (λ xs. xs ++ c.as_str-2.result.now ∷ []) so_far in
    let all : texts c.as_slice.result.now ≡ (front ++ c.as_str-2.result.now ∷ []) ++ back = ap texts whole ∙ last ∙ ap (λ xs. xs ++ back) two in
    let rest : take (length c.args.words.now - (c.args.place + 2)) (drop (c.args.place + 2) c.args.words.now) ≡ drop (c.args.place + 2) c.args.words.now =
    ap (λ k. take k (drop (c.args.place + 2) c.args.words.now)) (sym (length-drop (c.args.place + 2) c.args.words.now)) ∙ take-length (drop (c.args.place + 2) c.args.words.now) in
    let one : joined_at (map string_bytes c.args.words.now) (Some c.args.place) ≡ (front ++ c.as_str-2.result.now ∷ []) ++ back =
    sym (joined_is c.args.words.now c.args.place c.index-words-place.result (take c.args.place c.args.words.now)
    (take (length c.args.words.now - (c.args.place + 2)) (drop (c.args.place + 2) c.args.words.now)) c.as_str-2.result.now c.requires at refl rest number) in
    subst (λ (ws : List Text). IfOk c.read_words.result (IsReadAs c.args.processors ws)) (all ∙ sym one) asked

use Rattle.std.proofs.Common.{refl, rules}
use Rattle.cb_messages.specs.Messages.{IsMessage}
use Rattle.cb_messages.proofs.SameLetters.{same_letter}
use Rattle.cb_messages.proofs.SentLists.{sent_is_message}
use Rattle.cb_messages.proofs.arrivals.letter_of.Goals as goal

pub returns-then-not-is_message-clause-known : goal.returns-then-not-is_message-clause-known
returns-then-not-is_message-clause-known g c is x sizes sent =
    let never : IsMessage g.S.Semiring.arithmetic c.args.head.now c.args.lists.now → ⊥ = search rules in
    never (sent_is_message g.S.Semiring.arithmetic x c.args.head.now c.args.lists.now sizes sent)

pub returns-clause-sent : goal.returns-clause-sent
returns-clause-sent g c x sent =
    same_letter g.S.Semiring.arithmetic _ x c.args.head.now c.args.lists.now (record { number = refl; from = refl; to = refl; tag = refl; body = c.in_ok-body.ensures }) sent

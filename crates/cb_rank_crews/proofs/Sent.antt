-- What goes between a crew and its workers may go from thread to thread.
use denote.RattleType.{RattleType}
use mathlib.Core.List.{[], ◌∷◌}
use denote.Struct.Tuple.{Tuple}
use denote.Param.Send.{IsSend, IsSync, sendable}
use denote.Param.SendFields.{declared_send}
use Rattle.std.proofs.Crossing.{crosses}
use Rattle.std.specs.contracts.result.Result as Result
use Rattle.std.specs.contracts.alloc.Global as Global
use Rattle.std.specs.contracts.impls.GlobalAllocator.TheImpl.{ghosts as global}
use Rattle.rtrb.specs.contracts.AnyItems as AnyItems
use Rattle.rtrb.specs.contracts.AnyItemsProtocol.TheImpl.{ghosts as any_items}
use Rattle.rtrb.specs.contracts.consumer.Consumer as Consumer
use Rattle.rtrb.proofs.end.End.TheSendSync.{the_send as end_send}
use Rattle.cb_semirings.specs.declared.Semiring.{Ghosts as SemiringGhosts}
use Rattle.cb_plan.specs.contracts.shared_blocks.SharedBlock as SharedBlock
use Rattle.cb_lanes.specs.contracts.desk.Desk as Desk
use Rattle.cb_lanes.specs.contracts.waiting.Gone as Gone
use Rattle.cb_rank.specs.contracts.ranks.Rank as Rank
use Rattle.cb_rank_crews.specs.declared.messages.Naming.{Ghosts as NamingGhosts}
use Rattle.cb_rank_crews.specs.contracts.lines.Sender as Sender
use Rattle.cb_rank_crews.specs.contracts.lines.Receiver as Receiver
use Rattle.cb_rank_crews.specs.contracts.messages.Errand as Errand
use Rattle.cb_rank_crews.specs.contracts.messages.Slip as Slip
use Rattle.cb_rank_crews.specs.contracts.messages.Request as Request
use Rattle.cb_rank_crews.specs.contracts.messages.Answer as Answer

-- what holds others may, if they may
module _ (T : RattleType) (send : IsSend T) where
  desk_send : IsSend (Desk.the_row T)
  desk_send = search (sendable, crosses, end_send) depth 60 fits 100000

  consumer_send : IsSend (Consumer.the_row T Global.the_row AnyItems.the_row global (any_items T))
  consumer_send = search (sendable, crosses, end_send) depth 60 fits 100000

  sender_send : IsSend (Sender.the_row T)
  sender_send = search (sendable, crosses, end_send) depth 60 fits 100000

  receiver_send : IsSend (Receiver.the_row T)
  receiver_send = search (sendable, crosses, end_send) depth 60 fits 100000

  pair_send : (Q : RattleType) → IsSend Q → IsSend (Tuple (T ∷ Q ∷ []))
  pair_send Q other = search (sendable, crosses)

  result_send : (E : RattleType) → IsSend E → IsSend (Result.the_row T E)
  result_send E other = search (sendable, crosses) depth 60

gone_send : IsSend Gone.the_row
gone_send = search (sendable, crosses)

module _ (S : RattleType) (A : SemiringGhosts S.Denot) (send : IsSend S) (sync : IsSync S) where
  rank_send : IsSend (Rank.the_row S A)
  rank_send = search (sendable, crosses) depth 60 fits 100000

  block_send : IsSend (SharedBlock.the_row S A)
  block_send = search (sendable, crosses) depth 60 fits 100000

  own_desk_send : IsSend (Desk.the_row (SharedBlock.the_row S A))
  own_desk_send = desk_send (SharedBlock.the_row S A) block_send

  errand_send : IsSend (Errand.the_row S A)
  errand_send = let inside : IsSend (Errand.TheInside.the_row S A) = declared_send (Errand.TheInside.the_type S A) (rank_send, (own_desk_send, tt)) in search (sendable, inside)

module _ (S K : RattleType) (A : SemiringGhosts S.Denot) (N : NamingGhosts K.Denot) (send : IsSend S) (sync : IsSync S) where
  slip_send : IsSend (Slip.the_row S K A N)
  slip_send = declared_send (Slip.the_type S K A N) (search sendable, (consumer_send (Errand.the_row S A) (errand_send S A send sync), (search (sendable, crosses) depth 60, tt)))

  answer_send : IsSend (Answer.the_row S K A N)
  answer_send =
      let member = pair_send (Rank.the_row S A) (rank_send S A send sync) (Desk.the_row (SharedBlock.the_row S A)) (own_desk_send S A send sync) in
      let inside : IsSend (Answer.TheInside.the_row S K A N) = declared_send (Answer.TheInside.the_type S K A N) (slip_send, (result_send _ member Gone.the_row gone_send, tt)) in
      search (sendable, inside)

  pub requests_send : IsSend (Receiver.the_row (Request.the_row S K A N))
  requests_send = receiver_send (Request.the_row S K A N) (declared_send (Request.the_type S K A N) (slip_send, tt))

  pub answers_send : IsSend (Sender.the_row (Answer.the_row S K A N))
  answers_send = sender_send (Answer.the_row S K A N) answer_send

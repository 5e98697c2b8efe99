-- What acts that shut lanes do: they change no slot.
pub use Rattle.cb_plan.proofs.ShutMeaning.{shut_nothing}

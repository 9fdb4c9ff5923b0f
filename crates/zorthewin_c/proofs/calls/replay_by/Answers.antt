use Rattle.std.proofs.Common.{inl, inr, ap, Err, refl}
use Rattle.zorthewin_c.proofs.calls.replay_by.Goals as goal

-- (the bytes are no trace)
pub returns-in-Err-NotTrace : goal.returns-in-Err-NotTrace
returns-in-Err-NotTrace g c = inr (record { none = refl; same = refl }, inl (refl, c.in-Err-NotTrace.ensures.no_trace (ap Err c.in-Err-NotTrace.field-0-is)))

use Rattle.std.proofs.Common.{Err, ap}
use Rattle.vk_explain.proofs.explaining.explanation_with.Goals as goal

pub no_trace-requires : goal.no_trace-requires
no_trace-requires c = c.in-Err-NotTrace.ensures.none (ap Err c.in-Err-NotTrace.field-0-is)

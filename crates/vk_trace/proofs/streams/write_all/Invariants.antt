use Rattle.std.proofs.Common.{◌≡◌, ◌≤◌, ◌+◌, take, length, false}
use Rattle.std.specs.Io.KnownBytes.{Appends}
use Rattle.vk_trace.proofs.streams.write_all.Given as goal

abbrev pub invariant-loop : goal.invariant-loop
invariant-loop g l = record {
  written : Appends (g.W.Write.contents l.fn.writer.inner) (g.W.Write.contents l.writer.inner) (take l.written l.bytes);
  rounds : l.counter ≤ l.written;
  within : l.written ≤ length l.bytes;
  calls : l.writer.calls ≤ l.fn.writer.calls + l.counter;
  whole : l.writer.failed ≡ false;
}

use Rattle.std.proofs.Common.{◌≡◌, ◌≤◌, ◌<◌, ◌+◌, ◌^◌, length, false}
use Rattle.std.specs.Io.KnownBytes.{Consumes}
use Rattle.vk_trace.specs.Watching.{counted}
use Rattle.vk_trace.proofs.streams.read_all.Given as goal

abbrev pub invariant-loop : goal.invariant-loop
invariant-loop g l = record {
  read : Consumes (g.R.Read.remaining l.fn.reader.inner) (g.R.Read.remaining l.reader.inner) l.input.items;
  within : length l.input.items ≤ 16777216;
  rounds : l.counter ≤ length l.input.items;
  room : 0 < length l.chunk.items;
  calls : counted l.reader.calls 0 ≡ counted l.fn.reader.calls l.counter;
  most : l.reader.calls ≤ l.fn.reader.calls + l.counter;
  known : 0 < l.counter → l.reader.calls < 2 ^ 64;
  whole : l.reader.failed ≡ false;
}

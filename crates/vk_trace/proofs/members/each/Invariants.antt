use Rattle.std.proofs.Common.{◌≡◌, length}
use Rattle.vk_trace.specs.Members.{each_member}
use Rattle.vk_trace.specs.Inner.Ahead.{ahead, whole}
use Rattle.vk_trace.proofs.MemberLemmas.{with_front}
use Rattle.vk_trace.proofs.members.each.Given as goal

abbrev pub invariant-members : goal.invariant-members
invariant-members g l = record {
  value : with_front l.list.items (each_member g.T.Member.means (ahead l.tokens)) ≡ each_member g.T.Member.means (ahead l.fn.tokens);
  rest : whole l.tokens ≡ whole l.fn.tokens;
}

abbrev pub decreases-members : goal.decreases-members
decreases-members g l = length l.tokens.reader

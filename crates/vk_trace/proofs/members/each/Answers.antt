use Rattle.std.proofs.Common.{◌≡◌, [], ◌∷◌, Some, None, sym, ap, ◌∙◌, arith, List}
use Rattle.std.proofs.lemmas.Result.{err_from_is_err_and}
use Rattle.json.specs.Json.{after_end_array}
use Rattle.serde_json.specs.Data.{Data}
use Rattle.vk_trace.specs.Members.{each_member}
use Rattle.vk_trace.specs.Inner.Ahead.{next, ahead, whole}
use Rattle.vk_trace.proofs.AheadLemmas.{front_of, taken}
use Rattle.vk_trace.proofs.MemberLemmas.{with_front, goes_on, ends, is_done}
use Rattle.vk_trace.proofs.members.each.Goals as goal

pub returns-in_err-member-clause-value : goal.returns-in_err-member-clause-value
returns-in_err-member-clause-value g c =
    let p = err_from_is_err_and c.from_residual.result c.from_residual.ensures.1 in
    let means = g.T.Member.means in
    let l = c.members in
    let now = c.take_end.new.self in
    let going : (now ≡ l.tokens) × (after_end_array l.tokens.reader ≡ None) = grind arith in
    let front = front_of now l.tokens going.0 going.1 in
    rw (p.1, p.2) (ends c.in_err-member.field-0.0 means l.list.items (next now) front.0 (each_member means (ahead c.args.tokens.now)) c.in_err-member.ensures.value
    (ap (λ (ds : List Data). with_front l.list.items (each_member means ds)) (sym front.1) ∙ l.invariant.value))

pub members-smaller : goal.members-smaller
members-smaller g c =
    let l = c.members in
    let now = c.take_end.new.self in
    let going : (now ≡ l.tokens) × (after_end_array l.tokens.reader ≡ None) = grind arith in
    rw (sym going.0) (taken now c.member.new.tokens c.in_ok-member.ensures.rest).shorter

pub members-preserved : goal.members-preserved
members-preserved g c =
    let means = g.T.Member.means in
    let l = c.members in
    let now = c.take_end.new.self in
    let left = c.member.new.tokens in
    let going : (now ≡ l.tokens) × (after_end_array l.tokens.reader ≡ None) = grind arith in
    let one = taken now left c.in_ok-member.ensures.rest in
    let split : ahead l.tokens ≡ next now ∷ ahead left = ap ahead (sym going.0) ∙ one.ahead_is in
    record {
      value = rw c.in_ok-push_member.ensures (goes_on means l.list.items (next now) (ahead left) c.in_ok-member.field-0 (each_member means (ahead c.args.tokens.now)) c.in_ok-member.ensures.value
          (ap (λ (ds : List Data). with_front l.list.items (each_member means ds)) (sym split) ∙ l.invariant.value));
      rest = sym one.whole_is ∙ ap whole going.0 ∙ l.invariant.rest;
    }

pub returns-clause-value : goal.returns-clause-value
returns-clause-value g c =
    let means = g.T.Member.means in
    let l = c.members in
    let over : (ahead l.tokens ≡ []) × (whole l.tokens ≡ Some c.take_end.new.self) = grind arith in
    is_done means l.list.items (each_member means (ahead c.args.tokens.now)) (ap (λ (ds : List Data). with_front l.list.items (each_member means ds)) (sym over.0) ∙ l.invariant.value)

-- What is reported of a busy resource.
use Rattle.std.proofs.Common.{◌≡◌, ℕ, List, [], true, Some, refl, ap, sym, subst}
use Rattle.std.specs.Prelude.{Contains, is_some, option_and_then}
use Rattle.vk_model.specs.declared.entry.Entry.{Entry}
use Rattle.vk_model.specs.declared.rule.At.TheVariants as at
use Rattle.vk_model.specs.Trace.Point.{Past, Point, Action, Host, Wait, Run, Signal, host_of}
use Rattle.vk_model.specs.Sync.Node.{Node, next_nodes}
use Rattle.vk_model.specs.Rules.Passes.{pass_of}
use Rattle.vk_model.proofs.Lists.Members.{contains-head}
use Rattle.vk_model.proofs.Lists.Truths.{clash}
use Rattle.vk_rules.specs.declared.passes.BusyResident.{BusyResident}
use Rattle.vk_rules.specs.Passes.{IsBusyResident}
use Rattle.vk_findings.specs.declared.timeline.Timeline.{Timeline}
use Rattle.vk_findings.specs.declared.users.User.{User}
use Rattle.vk_findings.specs.Busy.{IsBusyResource}
use Rattle.vk_findings.specs.Inner.Submits.{IsSubmitted}
use Rattle.vk_findings.specs.Inner.Uses.{IsTimeline}
use Rattle.vk_findings.specs.Inner.Users.{IsOpenUse, IsPointDone}
use Rattle.vk_findings.proofs.TimelineLemmas.{host_next}
use Rattle.vk_findings.proofs.UserLemmas.{all_done}
use Rattle.vk_laws.proofs.Living.Ends.{host_node}

-- an action that begins or ends a pass is of the host
pass_host : (d : Action) (k : ℕ) → option_and_then pass_of (host_of d) ≡ Some k → (x : Entry) × (d ≡ Host x)
pass_host (Host x) k e = (x, refl)
pass_host (Wait s) k e = absurd cc
pass_host (Run c) k e = absurd cc
pass_host (Signal s) k e = absurd cc

pub is_host : (d : Action) (k : ℕ) → option_and_then pass_of (host_of d) ≡ Some k → is_some (host_of d) ≡ true
is_host d k e = let x = pass_host d k e in ap (λ (a : Action). is_some (host_of a)) x.1

module _ (past older : Past) (p : Point) (t : Timeline) (m : BusyResident) (same : older ≡ past) (resident : IsBusyResident past p m) (line : IsTimeline t past p) where
  -- a resident and a command that keeps it busy
  pub busy_reported : (u : User) → IsSubmitted older u.spot m.resource → IsOpenUse t m.resource u
      → IsBusyResource past p (record { resource = m.resource; pool = m.pool; defrag = m.defrag; command = at.Command u.spot.entry u.spot.batch u.spot.place; is_started = u.is_started })
  busy_reported u submitted incomplete =
      let host = pass_host p.action m.defrag resident.pass in
      let user : IsSubmitted past u.spot m.resource = subst (λ (q : Past). IsSubmitted q u.spot m.resource) same submitted in
      let open_use = incomplete past p host.0 host.1 line user.point user.is_at in
      record {
        pass = resident.pass;
        pool = resident.pool;
        lies = resident.lies;
        lives = resident.lives;
        user = user.point;
        reported = user.reported;
        uses = record { submits = user.there; naming = user.naming; incomplete = open_use.0; has_started = open_use.1 };
      }

  -- there is one
  pub some_user : ((w : Point) → Contains older w → IsPointDone t m.resource w) → ⊥
  some_user done =
      let host = pass_host p.action m.defrag resident.pass in
      let n = host_node past p host.0 in
      let here : Contains (next_nodes past p) n = subst (λ (l : List Node). Contains l n) (sym (host_next past p host.0 host.1)) (contains-head n []) in
      clash (resident.busy n here) (all_done t past p host.0 m.resource host.1 line (subst (λ (q : Past). (w : Point) → Contains q w → IsPointDone t m.resource w) same done) n here)

use Rattle.std.proofs.Common.{◌≡◌, Bool, false, sym, ◌∙◌, subst, rules}
use Rattle.std.specs.Prelude.{take}
use Rattle.std.specs.List.{list_any}
use Rattle.vk_history.specs.PointViews.{past}
use Rattle.vk_findings.specs.Owners.{takes_by}
use Rattle.vk_findings.proofs.OwnerLemmas.{owner_kept}
use Rattle.vk_findings.proofs.transfers.owned_among.Goals as goal

pub returns : goal.returns
returns c =
    let before_it = past c.args.history.now in
    let owned = c.ownership_of-owned.ensures in
    let q = c.args.queue in
    let r = c.args.unpaired.resource in
    let earlier = take c.args.unpaired.element c.args.elements.now in
    let none : list_any (takes_by c.ownership_of-owned.result.is_exclusive q r) earlier ≡ false = search rules in
    record {
      found = c.requires;
      owned = record { owner = owned.holder; since = owned.since; exclusive = owned.exclusive };
      first = none;
      finds = owner_kept before_it q r earlier (subst (λ (b : Bool). list_any (takes_by b q r) earlier ≡ false) owned.exclusive none) ∙ sym owned.holder;
    }

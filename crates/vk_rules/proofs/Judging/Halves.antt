-- OWNER_PAIR of one element, which names a resource and families.
use Rattle.std.proofs.Common.{◌≡◌, ◌==◌, ℕ, List, Bool, true, false, ◌||◌, ◌&&◌, not, refl, ap, sym, subst, ◌∙◌, Option, Some, None}
use Rattle.std.specs.Prelude.{nat_lt, IfOk, IfSome, Result, Ok, Err}
use Rattle.std.specs.Ordering.{nat_cmp}
use Rattle.std.specs.BTreeMap.{get}
use Rattle.vk_model.specs.declared.command.Element.{Element}
use Rattle.vk_model.specs.declared.command.Families.{Families}
use Rattle.vk_model.specs.Basics.{holds}
use Rattle.vk_model.specs.Trace.Objects.{is_exclusive}
use Rattle.vk_model.specs.Trace.Point.{Past, Point}
use Rattle.vk_model.specs.World.Bytes.{World, Owner}
use Rattle.vk_model.specs.World.Effect.{world}
use Rattle.vk_model.specs.World.Ownership.{Transfer, Release, Acquire, named_by, families_of, family_of, transfer, transfer_on}
use Rattle.vk_model.specs.Sync.Node.{Node}
use Rattle.vk_model.specs.Rules.Owners.{bad_pair, bad_owner, bad_families, families_differ}
use Rattle.vk_rules.specs.declared.halves.Changed.{Changed}
use Rattle.vk_rules.specs.declared.owners.OwnerFault.{OwnerFault}
use Rattle.vk_rules.specs.Owners.{IsFault}
use Rattle.vk_rules.specs.Inner.Owners.{Judges, IsFaultNow, IsKept}

-- what an element does is known by the families that it names
pub transfer_named : (q : ℕ) (e : Element) (t : Families) → families_of e ≡ Some t → transfer_on q e ≡ transfer (family_of q) t
transfer_named q e t names = rw (names, transfer_on) refl

-- one whose families aren't bad is judged by its owner
pub owner_judges : (past : Past) (p : Point) (e : Element) (r : ℕ) (t : Families) (does : Transfer) → named_by e ≡ Some r → families_of e ≡ Some t → transfer (family_of p.queue) t ≡ does
    → (families_differ t && (nat_lt 1 t.source || nat_lt 1 t.destination || not (is_exclusive past r))) ≡ false
    → (old new : Changed) (bad : Bool) → Judges (λ all w n. bad_owner all w n r e does) past p e old new bad → Judges (λ all w n. bad_pair past all w n e) past p e old new bad
owner_judges past p e r t does named names doing good old new bad judges = λ done w all n after are.
    let h = judges done w all n after are in (h.0 ∙ sym (same all w n after.point), h.1)
  where
    same : (all : List Node) (w : World) (n : Node) → n.point ≡ p → bad_pair past all w n e ≡ bad_owner all w n r e does
    same all w n at =
        ap (λ (o : Option ℕ). holds o (λ k. bad_families past e k || bad_owner all w n k e (transfer_on n.point.queue e))) named
        ∙ ap (λ (b : Bool). b || bad_owner all w n r e (transfer_on n.point.queue e)) good_families
        ∙ ap (λ (x : Point). bad_owner all w n r e (transfer_on x.queue e)) at
        ∙ ap (λ (u : Transfer). bad_owner all w n r e u) (transfer_named p.queue e t names ∙ doing)
      where
        good_families : bad_families past e r ≡ false
        good_families = ap (λ (o : Option Families). holds o (λ u. families_differ u && (nat_lt 1 u.source || nat_lt 1 u.destination || not (is_exclusive past r)))) names ∙ good

-- what is half of a transfer names two families
pub release_differs : (f : ℕ) (t : Families) → transfer f t ≡ Release → families_differ t ≡ true
release_differs f t does = go (t.source == t.destination) refl
  where
    go : (b : Bool) → (t.source == t.destination) ≡ b → families_differ t ≡ true
    go true same = let h = rw same at does in absurd cc
    go false same = rw same refl

pub acquire_differs : (f : ℕ) (t : Families) → transfer f t ≡ Acquire → families_differ t ≡ true
acquire_differs f t does = go (t.source == t.destination) refl
  where
    go : (b : Bool) → (t.source == t.destination) ≡ b → families_differ t ≡ true
    go true same = let h = rw same at does in absurd cc
    go false same = rw same refl

-- what holds anyway is said of each fault
pub of_each : {A E : Type 0} (P : Type 0) (r : Result (Option A) E) → P → IfOk r (λ o. IfSome o (λ a. P))
of_each P (Ok None) p = tt
of_each P (Ok (Some a)) p = p
of_each P (Err e) p = tt

-- a fault by the owner before the barrier, where no element changed that
pub fault_unchanged : (past : Past) (p : Point) (e : Element) (r : ℕ) (t : Families) (old : Changed) (o : Option OwnerFault) → get nat_cmp old.released r ≡ None
    → IfSome o (IsFault p.queue e t (is_exclusive past r) ((world past).owner r)) → IfSome o (IsFaultNow past p e r t old)
fault_unchanged past p e r t old None unchanged fault = tt
fault_unchanged past p e r t old (Some f) unchanged fault = λ done w are.
    let kept : IsKept past p.queue None done (w.owner r) r = subst (λ (b : Option Bool). IsKept past p.queue b done (w.owner r) r) unchanged (are r) in
    subst (λ (o : Owner). IsFault p.queue e t (is_exclusive past r) o f) (sym kept.0) fault

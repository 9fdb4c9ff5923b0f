-- The table of rules, in two parts, of which the second needs the accesses of a point.
use Rattle.std.proofs.Common.{◌≡◌, ◌≤◌, ◌<◌, ◌+◌, ℕ, List, [], ◌∷◌, ◌++◌, Bool, true, false, refl, sym, ◌∙◌, ap, drop, length, get_or, Option, Some, None, add-one, drop-cons, cond, subst, map}
use Rattle.std.specs.List.{find}
use Rattle.std.specs.Option.{option_map}
use Rattle.std.proofs.lemmas.List.{drop_all}
use Rattle.vk_model.specs.declared.rule.Rule.{Rule}
use Rattle.vk_model.specs.declared.rule.Rule.TheVariants as rule
use Rattle.vk_model.specs.Basics.{first_that}
use Rattle.vk_model.specs.declared.command.BufferCopy.{BufferCopy}
use Rattle.vk_model.specs.declared.command.Length.{Length}
use Rattle.vk_model.specs.declared.command.Element.{Element}
use Rattle.vk_model.specs.declared.command.Cmd.{Cmd}
use Rattle.vk_model.specs.declared.command.Cmd.TheVariants.{Fill, Update, Copy, Barrier}
use Rattle.vk_model.specs.declared.entry.Entry.{Entry}
use Rattle.vk_model.specs.declared.entry.Entry.TheVariants.{Semaphore}
use Rattle.vk_model.specs.Trace.Point.{Past, Point, Action, Host, Run}
use Rattle.vk_model.specs.Rules.Table.{breaks, first_rule}
use Rattle.vk_model.specs.Rules.Hazards.{breaks_hazard_war, breaks_hazard_raw, breaks_hazard_waw, breaks_in_use, breaks_read_undefined}
use Rattle.vk_model.specs.Rules.Traces.{breaks_limit}
use Rattle.vk_history.specs.Judged.{early_rules, late_rules, first_among}
use Rattle.vk_validate.specs.Inner.Early.{breaks_early, on_buffers, on_barriers}

pub find-drop : {X : Type 0} (p : X → Bool) (xs : List X) (i : ℕ) (d : X) → i < length xs → find p (drop i xs) ≡ cond (p (get_or xs i d)) (Some (get_or xs i d)) (find p (drop (i + 1) xs))
find-drop p xs i d lt = rw (add-one, drop-cons xs i d) refl

pub find-all : {X : Type 0} (p : X → Bool) (xs : List X) (i : ℕ) → length xs ≤ i → find p (drop i xs) ≡ None
find-all p xs i le = rw (drop_all i xs le) refl

-- what the loop over the rules goes by
pub ruleset finds = (find-drop, find-all)

-- each of some rules comes with whether a test holds of it
abbrev pub AreTests : (Rule → Bool) → List (Rule × Bool) → Type 0
AreTests f [] = Unit {0}
AreTests f (t ∷ ts) = (t.1 ≡ f t.0) × AreTests f ts

-- so the first that comes with true is the first of which it holds
pub tests_found : (f : Rule → Bool) (ts : List (Rule × Bool)) → AreTests f ts → option_map (λ t. t.0) (find (λ t. t.1) ts) ≡ find f (map (λ t. t.0) ts)
tests_found f [] are = refl
tests_found f (t ∷ ts) are = subst (λ (b : Bool). option_map (λ (u : Rule × Bool). u.0) (cond t.1 (Some t) (find (λ (u : Rule × Bool). u.1) ts)) ≡ cond b (Some t.0) (find f (map (λ (u : Rule × Bool). u.0) ts))) are.0 (go t.1 (tests_found f ts are.1))
  where
    go : (b : Bool) → option_map (λ (u : Rule × Bool). u.0) (find (λ (u : Rule × Bool). u.1) ts) ≡ find f (map (λ (u : Rule × Bool). u.0) ts)
        → option_map (λ (u : Rule × Bool). u.0) (cond b (Some t) (find (λ (u : Rule × Bool). u.1) ts)) ≡ cond b (Some t.0) (find f (map (λ (u : Rule × Bool). u.0) ts))
    go true same = refl
    go false same = same

-- what is found in two lists is found in the first, or else in the second
found_first : {A : Type 0} (f : A → Bool) (xs ys : List A) (x : A) → find f xs ≡ Some x → Some x ≡ first_that f (xs ++ ys)
found_first f [] ys x e = absurd cc
found_first {A} f (y ∷ xs) ys x e = go (f y) e (found_first f xs ys x) where
  go : (b : Bool) → cond b (Some y) (find f xs) ≡ Some x → (find f xs ≡ Some x → Some x ≡ first_that f (xs ++ ys)) → Some x ≡ (let o : Option A = elim b [ true ↦ Some y | false ↦ first_that f (xs ++ ys) ] in o)
  go true e rest = sym e
  go false e rest = rest e

found_second : {A : Type 0} (f : A → Bool) (xs ys : List A) → find f xs ≡ None → find f ys ≡ first_that f (xs ++ ys)
found_second f [] [] e = refl
found_second {A} f [] (y ∷ ys) e = go (f y) (found_second f [] ys refl) where
  go : (b : Bool) → find f ys ≡ first_that f ys → cond b (Some y) (find f ys) ≡ (let o : Option A = elim b [ true ↦ Some y | false ↦ first_that f ys ] in o)
  go true same = refl
  go false same = same
found_second {A} f (x ∷ xs) ys e = go (f x) e (found_second f xs ys) where
  go : (b : Bool) → cond b (Some x) (find f xs) ≡ None → (find f xs ≡ None → find f ys ≡ first_that f (xs ++ ys)) → find f ys ≡ (let o : Option A = elim b [ true ↦ Some x | false ↦ first_that f (xs ++ ys) ] in o)
  go true e rest = absurd cc
  go false e rest = rest e

-- the early rules that are on commands, and those on entries
abbrev pub on_commands : List Rule
on_commands = rule.LiveId ∷ rule.QueueKind ∷ rule.Size ∷ rule.Usage ∷ rule.Range ∷ rule.Align ∷ rule.Overlap ∷ rule.Format ∷ rule.Subresource ∷ rule.Stage ∷ rule.Layout ∷ rule.OldLayout ∷ rule.OwnerWhole
    ∷ rule.OwnerPair ∷ rule.EventState ∷ rule.EventDependency ∷ rule.SignalOrder ∷ rule.PassWrite ∷ []

abbrev pub on_entries : List Rule
on_entries = rule.NewId ∷ rule.LiveId ∷ rule.Queue ∷ rule.Size ∷ rule.Usage ∷ rule.MemoryType ∷ rule.MemorySize ∷ rule.PoolSize ∷ rule.BindRange ∷ rule.BindAlign ∷ rule.Aliased ∷ rule.Range ∷ rule.Overlap ∷ rule.Stage
    ∷ rule.OwnerPair ∷ rule.SignalValue ∷ rule.SignalOrder ∷ rule.WaitNever ∷ rule.MapState ∷ rule.HostVisible ∷ rule.PoolKind ∷ rule.PassState ∷ rule.PassBusy ∷ rule.PassWrite ∷ []

-- those on a new semaphore
abbrev pub on_semaphores : List Rule
on_semaphores = rule.NewId ∷ rule.OwnerPair ∷ rule.SignalOrder ∷ []

module _ (past : Past) (p : Point) where
  pub early_are : find (λ r. breaks_early r past p) early_rules ≡ first_among early_rules past p
  unfolding breaks_early
  early_are = refl

  -- what holds of a point with an action holds of the point that has it
  pub at_action : (rules : List Rule) (a : Action) → p.action ≡ a
      → find (λ r. breaks_early r past (record p { action = a })) rules ≡ first_among early_rules past (record p { action = a }) → find (λ r. breaks_early r past p) rules ≡ first_among early_rules past p
  at_action rules a is = subst (λ (b : Action). find (λ r. breaks_early r past (record p { action = b })) rules ≡ first_among early_rules past (record p { action = b })) (sym is)

  -- a command breaks none of those that aren't on commands
  pub commands_are : (c : Cmd) → p.action ≡ Run c → find (λ r. breaks_early r past p) on_commands ≡ first_among early_rules past p
  unfolding breaks_early breaks
  commands_are c is = at_action on_commands (Run c) is refl

  -- an entry none of those that aren't on entries
  pub entries_are : (x : Entry) → p.action ≡ Host x → find (λ r. breaks_early r past p) on_entries ≡ first_among early_rules past p
  unfolding breaks_early breaks
  entries_are x is = at_action on_entries (Host x) is refl

  -- nor a fill, an update, a copy, a barrier or a semaphore those that aren't on such
  pub fills_are : (b o : ℕ) (s : Length) (w : ℕ) → p.action ≡ Run (Fill b o s w) → find (λ r. breaks_early r past p) on_buffers ≡ first_among early_rules past p
  unfolding breaks_early breaks
  fills_are b o s w is = at_action on_buffers (Run (Fill b o s w)) is refl

  pub updates_are : (b o : ℕ) (bytes : List ℕ) → p.action ≡ Run (Update b o bytes) → find (λ r. breaks_early r past p) on_buffers ≡ first_among early_rules past p
  unfolding breaks_early breaks
  updates_are b o bytes is = at_action on_buffers (Run (Update b o bytes)) is refl

  pub copies_are : (b c : ℕ) (regions : List BufferCopy) → p.action ≡ Run (Copy b c regions) → find (λ r. breaks_early r past p) on_buffers ≡ first_among early_rules past p
  unfolding breaks_early breaks
  copies_are b c regions is = at_action on_buffers (Run (Copy b c regions)) is refl

  pub barriers_are : (elements : List Element) → p.action ≡ Run (Barrier elements) → find (λ r. breaks_early r past p) on_barriers ≡ first_among early_rules past p
  unfolding breaks_early breaks
  barriers_are elements is = at_action on_barriers (Run (Barrier elements)) is refl

  pub semaphores_are : (id initial : ℕ) → p.action ≡ Host (Semaphore id initial) → find (λ r. breaks_early r past p) on_semaphores ≡ first_among early_rules past p
  unfolding breaks_early breaks
  semaphores_are id initial is = at_action on_semaphores (Host (Semaphore id initial)) is refl

  pub first_is_early : (r : Rule) → first_among early_rules past p ≡ Some r → Some r ≡ first_rule past p
  unfolding first_rule
  first_is_early r e = found_first (λ r. breaks r past p) early_rules late_rules r e

  pub first_is_late : first_among early_rules past p ≡ None → first_among late_rules past p ≡ first_rule past p
  unfolding first_rule
  first_is_late e = found_second (λ r. breaks r past p) early_rules late_rules e

-- a rule isn't one of those that are judged before accesses
pub record IsUntested (r : Rule) : Type 0 where
  pub new_id : r ≡ rule.NewId → ⊥
  pub live_id : r ≡ rule.LiveId → ⊥
  pub queue : r ≡ rule.Queue → ⊥
  pub queue_kind : r ≡ rule.QueueKind → ⊥
  pub size : r ≡ rule.Size → ⊥
  pub usage : r ≡ rule.Usage → ⊥
  pub memory_type : r ≡ rule.MemoryType → ⊥
  pub memory_size : r ≡ rule.MemorySize → ⊥
  pub pool_size : r ≡ rule.PoolSize → ⊥
  pub bind_range : r ≡ rule.BindRange → ⊥
  pub bind_align : r ≡ rule.BindAlign → ⊥
  pub aliased : r ≡ rule.Aliased → ⊥
  pub range : r ≡ rule.Range → ⊥
  pub align : r ≡ rule.Align → ⊥
  pub overlap : r ≡ rule.Overlap → ⊥
  pub format : r ≡ rule.Format → ⊥
  pub subresource : r ≡ rule.Subresource → ⊥
  pub stage : r ≡ rule.Stage → ⊥
  pub layout : r ≡ rule.Layout → ⊥
  pub old_layout : r ≡ rule.OldLayout → ⊥
  pub owner_whole : r ≡ rule.OwnerWhole → ⊥
  pub owner_pair : r ≡ rule.OwnerPair → ⊥
  pub event_state : r ≡ rule.EventState → ⊥
  pub event_dependency : r ≡ rule.EventDependency → ⊥
  pub signal_value : r ≡ rule.SignalValue → ⊥
  pub signal_order : r ≡ rule.SignalOrder → ⊥
  pub wait_before_signal : r ≡ rule.WaitBeforeSignal → ⊥
  pub wait_never : r ≡ rule.WaitNever → ⊥
  pub map_state : r ≡ rule.MapState → ⊥
  pub host_visible : r ≡ rule.HostVisible → ⊥
  pub pool_kind : r ≡ rule.PoolKind → ⊥
  pub pass_state : r ≡ rule.PassState → ⊥
  pub pass_busy : r ≡ rule.PassBusy → ⊥
  pub pass_write : r ≡ rule.PassWrite → ⊥

module _ (past : Past) (p : Point) where
  pub rest_unbroken : (r : Rule) → IsUntested r → false ≡ breaks_early r past p
  unfolding breaks_early breaks
  rest_unbroken rule.NewId u = absurd (u.new_id refl)
  rest_unbroken rule.LiveId u = absurd (u.live_id refl)
  rest_unbroken rule.Queue u = absurd (u.queue refl)
  rest_unbroken rule.QueueKind u = absurd (u.queue_kind refl)
  rest_unbroken rule.Size u = absurd (u.size refl)
  rest_unbroken rule.Usage u = absurd (u.usage refl)
  rest_unbroken rule.MemoryType u = absurd (u.memory_type refl)
  rest_unbroken rule.MemorySize u = absurd (u.memory_size refl)
  rest_unbroken rule.PoolSize u = absurd (u.pool_size refl)
  rest_unbroken rule.BindRange u = absurd (u.bind_range refl)
  rest_unbroken rule.BindAlign u = absurd (u.bind_align refl)
  rest_unbroken rule.Aliased u = absurd (u.aliased refl)
  rest_unbroken rule.Range u = absurd (u.range refl)
  rest_unbroken rule.Align u = absurd (u.align refl)
  rest_unbroken rule.Overlap u = absurd (u.overlap refl)
  rest_unbroken rule.Format u = absurd (u.format refl)
  rest_unbroken rule.Subresource u = absurd (u.subresource refl)
  rest_unbroken rule.Stage u = absurd (u.stage refl)
  rest_unbroken rule.Layout u = absurd (u.layout refl)
  rest_unbroken rule.OldLayout u = absurd (u.old_layout refl)
  rest_unbroken rule.OwnerWhole u = absurd (u.owner_whole refl)
  rest_unbroken rule.OwnerPair u = absurd (u.owner_pair refl)
  rest_unbroken rule.EventState u = absurd (u.event_state refl)
  rest_unbroken rule.EventDependency u = absurd (u.event_dependency refl)
  rest_unbroken rule.SignalValue u = absurd (u.signal_value refl)
  rest_unbroken rule.SignalOrder u = absurd (u.signal_order refl)
  rest_unbroken rule.WaitBeforeSignal u = absurd (u.wait_before_signal refl)
  rest_unbroken rule.WaitNever u = absurd (u.wait_never refl)
  rest_unbroken rule.MapState u = absurd (u.map_state refl)
  rest_unbroken rule.HostVisible u = absurd (u.host_visible refl)
  rest_unbroken rule.PoolKind u = absurd (u.pool_kind refl)
  rest_unbroken rule.PassState u = absurd (u.pass_state refl)
  rest_unbroken rule.PassBusy u = absurd (u.pass_busy refl)
  rest_unbroken rule.PassWrite u = absurd (u.pass_write refl)
  rest_unbroken rule.HazardWar u = refl
  rest_unbroken rule.HazardRaw u = refl
  rest_unbroken rule.HazardWaw u = refl
  rest_unbroken rule.InUse u = refl
  rest_unbroken rule.ReadUndefined u = refl
  rest_unbroken rule.Limit u = refl

module _ (past : Past) (p : Point) where
  -- the late rules, by what is known of the accesses
  abbrev pub late : (war raw waw used undefined over : Bool) → Option Rule
  late war raw waw used undefined over = cond war (Some rule.HazardWar) (cond raw (Some rule.HazardRaw) (cond waw (Some rule.HazardWaw) (cond used (Some rule.InUse) (cond undefined (Some rule.ReadUndefined) (cond over (Some rule.Limit) None)))))

  pub found_late : (war raw waw used undefined over : Bool) → war ≡ breaks_hazard_war past p → raw ≡ breaks_hazard_raw past p → waw ≡ breaks_hazard_waw past p → used ≡ breaks_in_use past p → undefined ≡ breaks_read_undefined past p → over ≡ breaks_limit past p
      → late war raw waw used undefined over ≡ first_among late_rules past p
  unfolding breaks
  found_late war raw waw used undefined over a b c u d e =
      ap (λ x. late x raw waw used undefined over) a
      ∙ ap (λ x. late (breaks_hazard_war past p) x waw used undefined over) b
      ∙ ap (λ x. late (breaks_hazard_war past p) (breaks_hazard_raw past p) x used undefined over) c
      ∙ ap (λ x. late (breaks_hazard_war past p) (breaks_hazard_raw past p) (breaks_hazard_waw past p) x undefined over) u
      ∙ ap (λ x. late (breaks_hazard_war past p) (breaks_hazard_raw past p) (breaks_hazard_waw past p) (breaks_in_use past p) x over) d
      ∙ ap (λ x. late (breaks_hazard_war past p) (breaks_hazard_raw past p) (breaks_hazard_waw past p) (breaks_in_use past p) (breaks_read_undefined past p) x) e

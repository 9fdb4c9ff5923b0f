-- What a point asks that breaks no rule, rule by rule.
use Rattle.std.proofs.Common.{◌≡◌, ◌≢◌, ℕ, ◌++◌, subst, ◌<◌, ◌≤◌, List, [], ◌∷◌, Bool, true, false, not, ◌==◌, nat_lt, refl, arith, Some, None}
use Rattle.std.specs.Prelude.{IsTrue, Contains, All, is_some, if◌then◌else◌}
use Rattle.std.specs.List.{list_any}
use Rattle.std.proofs.lemmas.Bool.{ltb-false, eqb-false, false_from_ne_true, or_parts}
use Rattle.std.proofs.lemmas.List.Elements.{All-nil, All-cons}
use Rattle.vk_model.specs.declared.rule.Rule.{Rule}
use Rattle.vk_model.specs.declared.rule.Rule.TheVariants as rule
use Rattle.vk_model.specs.declared.command.Cmd.{Cmd}
use Rattle.vk_model.specs.declared.entry.Entry.{Entry}
use Rattle.vk_model.specs.Basics.{holds}
use Rattle.vk_model.specs.Trace.Point.{Past, Point, Action, Host, Run, host_of}
use Rattle.vk_model.specs.Trace.Objects.{made, made_by, live}
use Rattle.vk_model.specs.Rules.Table.{breaks}
use Rattle.vk_model.specs.Rules.Fault.{newest}
use Rattle.vk_model.specs.Rules.Ids.{breaks_new_id, breaks_live_id, asked_by_entry, asked_by_command, judged_in, is_dead, asked_by, lists_stray, until}
use Rattle.vk_model.specs.Rules.Sizes.{breaks_size, bad_entry_size, bad_command_size, breaks_memory_size, bad_memory_size, breaks_pool_size, over_half}
use Rattle.vk_model.specs.Rules.Ranges.{breaks_range, host_past, command_past, area_past, breaks_align, misaligned, breaks_overlap, command_overlaps, breaks_format, texels_differ, breaks_subresource, bad_subresource}
use Rattle.vk_model.specs.Rules.Hazards.{ends_used, breaks_in_use}
use Rattle.vk_model.specs.Rules.Binding.{on_bound, ends_past_memory, is_aliased, is_misplaced, breaks_bind_range, breaks_aliased, breaks_bind_align}
use Rattle.vk_model.specs.World.Areas.{areas_read, areas_written}
use Rattle.vk_model.proofs.Lists.Members.{contains-head, contains-tail, member_passes}
use Rattle.vk_model.proofs.Lists.Truths.{clash}
use Rattle.vk_model.proofs.Lists.Failing.{none_there}
use Rattle.vk_laws.proofs.Nodes.Steady.{IsNew, made_until}
use Rattle.vk_laws.proofs.Living.Alive.{is_alive, host_names_live}
use Rattle.vk_device.specs.Inner.Clean.{IsClean}

-- a point breaks no rule
abbrev pub BreaksNone : Past → Point → Type 0
BreaksNone past p = (r : Rule) → breaks r past p ≡ false

pub breaks_none : (past : Past) (p : Point) → IsClean (p ∷ past) → BreaksNone past p
breaks_none past p clean r = false_from_ne_true (breaks r past p) (clean.sound past p r newest)

-- ---- what entries and commands get of it

pub not-false : (b : Bool) → not b ≡ false → b ≡ true
not-false true e = refl
not-false false e = absurd cc

-- a test that is false of a sum says that it doesn't pass the bound
pub not_above : (n m : ℕ) → nat_lt n m ≡ false → m ≤ n
not_above n m e = ltb-false n m e

pub not_zero : (n : ℕ) → (n == 0) ≡ false → 0 < n
not_zero n e = let apart : n ≢ 0 = eqb-false n 0 e in omega arith

module _ (past : Past) (p : Point) (none : BreaksNone past p) where
  pub new_made : (x : Entry) (i : ℕ) → p.action ≡ Host x → made_by x ≡ Some i → made past i ≡ None
  unfolding breaks
  new_made x i is makes =
      let unbroken : breaks_new_id past p ≡ false = none rule.NewId in
      none_there (made past i) (rw (is, makes) at unbroken)

  pub entry_size : (x : Entry) → p.action ≡ Host x → bad_entry_size x ≡ false
  unfolding breaks
  entry_size x is =
      let unbroken : breaks_size past p ≡ false = none rule.Size in
      (or_parts (bad_entry_size x) false (rw is at unbroken)).0

  pub command_size : (c : Cmd) → p.action ≡ Run c → bad_command_size past c ≡ false
  unfolding breaks
  command_size c is =
      let unbroken : breaks_size past p ≡ false = none rule.Size in
      rw is at unbroken

  pub memory_size : (x : Entry) → p.action ≡ Host x → bad_memory_size x ≡ false
  unfolding breaks
  memory_size x is =
      let unbroken : breaks_memory_size past p ≡ false = none rule.MemorySize in
      rw is at unbroken

  pub over_half_none : (x : Entry) → p.action ≡ Host x → over_half past x ≡ false
  unfolding breaks
  over_half_none x is =
      let unbroken : breaks_pool_size past p ≡ false = none rule.PoolSize in
      rw is at unbroken

  pub entry_range : (x : Entry) → p.action ≡ Host x → host_past past x ≡ false
  unfolding breaks
  entry_range x is =
      let unbroken : breaks_range past p ≡ false = none rule.Range in
      (or_parts (host_past past x) false (rw is at unbroken)).0

  pub command_range : (c : Cmd) → p.action ≡ Run c → command_past past c ≡ false
  unfolding breaks
  command_range c is =
      let unbroken : breaks_range past p ≡ false = none rule.Range in
      rw is at unbroken

  pub command_align : (c : Cmd) → p.action ≡ Run c → misaligned past p.queue c ≡ false
  unfolding breaks
  command_align c is =
      let unbroken : breaks_align past p ≡ false = none rule.Align in
      rw is at unbroken

-- ---- live objects

module _ (past : Past) (p : Point) (none : BreaksNone past p) where
  pub names_live : (x : Entry) (i : ℕ) (kind : Entry → Bool) → p.action ≡ Host x → Contains (asked_by_entry x) (i, kind) → IsTrue (holds (live past i) kind)
  unfolding breaks
  names_live x i kind is c = host_names_live past p x is (λ h. let un : breaks_live_id past p ≡ false = none rule.LiveId in clash h un) i kind c

  pub used_none : (x : Entry) → p.action ≡ Host x → ends_used past p x ≡ false
  unfolding breaks
  used_none x is =
      let unbroken : breaks_in_use past p ≡ false = none rule.InUse in
      subst (λ (d : Action). holds (host_of d) (ends_used past p) ≡ false) is unbroken

  pub bound_within : (x : Entry) → p.action ≡ Host x → on_bound (ends_past_memory past) x ≡ false
  unfolding breaks
  bound_within x is =
      let unbroken : breaks_bind_range past p ≡ false = none rule.BindRange in
      rw is at unbroken

  pub bound_apart : (x : Entry) → p.action ≡ Host x → on_bound (is_aliased past) x ≡ false
  unfolding breaks
  bound_apart x is =
      let unbroken : breaks_aliased past p ≡ false = none rule.Aliased in
      rw is at unbroken

  pub bound_aligned : (x : Entry) → p.action ≡ Host x → on_bound (is_misplaced past) x ≡ false
  unfolding breaks
  bound_aligned x is =
      let unbroken : breaks_bind_align past p ≡ false = none rule.BindAlign in
      rw is at unbroken

-- ---- what a command names, and what it reaches

-- a test that none of a list passes
pub none_passes : {A : Type 0} (test : A → Bool) (xs : List A) → list_any test xs ≡ false → (x : A) → Contains xs x → test x ≡ false
none_passes test xs none x c = false_from_ne_true (test x) (λ h. clash (member_passes test xs x c h) none)

-- what holds of each item holds of all
pub all_from : {A : Type 0} (P : A → Type 0) (xs : List A) → ((x : A) → Contains xs x → P x) → All P xs
all_from P [] each = All-nil P
all_from P (x ∷ xs) each = All-cons P x xs (each x (contains-head x xs)) (all_from P xs (λ y c. each y (contains-tail x xs y c)))

-- the areas that a command reads and writes lie in their buffers
pub areas_inside : (past : Past) (p : Point) (c : Cmd) → p.action ≡ Run c → BreaksNone past p → list_any (area_past past) (areas_read past c ++ areas_written past c) ≡ false
areas_inside past p c is none = (or_parts _ _ (or_parts _ _ (or_parts _ _ (command_range past p none c is)).0).0).0

module _ (past : Past) (p : Point) (none : BreaksNone past p) where
  -- what a command names was made, of its kind
  pub command_names : IsNew past → (c : Cmd) (i : ℕ) (kind : Entry → Bool) → p.action ≡ Run c → Contains (asked_by_command c) (i, kind) → (x : Entry) × (made past i ≡ Some x) × IsTrue (kind x)
  unfolding breaks
  command_names new c i kind is asked =
      let unbroken : breaks_live_id past p ≡ false = none rule.LiveId in
      let dead : list_any (is_dead (until p.entry past)) (asked_by_command c) ≡ false =
      subst (λ (d : Action). list_any (is_dead (if is_some (host_of d) then past else until p.entry past)) (asked_by d) ≡ false) is (or_parts (list_any (is_dead (judged_in past p)) (asked_by p.action)) (holds (host_of p.action) (lists_stray past)) unbroken).0 in
      let alive : holds (live (until p.entry past) i) kind ≡ true = not-false (holds (live (until p.entry past) i) kind) (none_passes (is_dead (until p.entry past)) (asked_by_command c) dead (i, kind) asked) in
      let a = is_alive (until p.entry past) i kind alive in
      (a.object, made_until p.entry past i a.object new a.made_it, a.is_kind)

  pub command_overlap : (c : Cmd) → p.action ≡ Run c → command_overlaps past c ≡ false
  unfolding breaks
  command_overlap c is =
      let unbroken : breaks_overlap past p ≡ false = none rule.Overlap in
      rw is at unbroken

  pub command_format : (c : Cmd) → p.action ≡ Run c → texels_differ past c ≡ false
  unfolding breaks
  command_format c is =
      let unbroken : breaks_format past p ≡ false = none rule.Format in
      rw is at unbroken

  pub command_subresource : (c : Cmd) → p.action ≡ Run c → bad_subresource past c ≡ false
  unfolding breaks
  command_subresource c is =
      let unbroken : breaks_subresource past p ≡ false = none rule.Subresource in
      rw is at unbroken

-- What a point that breaks no rule says of the ids and ranges that it names.
use Rattle.std.proofs.Common.{◌≡◌, ◌≤◌, ◌+◌, ℕ, List, [], ◌∷◌, length, Bool, true, false, not, ◌||◌, refl, ap, sym, ◌∙◌, subst, Option, Some, None}
use Rattle.std.specs.Prelude.{Contains, is_some, if◌then◌else◌}
use Rattle.std.specs.List.{list_any}
use Rattle.std.proofs.lemmas.Bool.{false_from_ne_true, ltb-false}
use Rattle.std.proofs.lemmas.List.Folds.{list_any-append}
use Rattle.vk_model.specs.declared.command.BufferCopy.{BufferCopy}
use Rattle.vk_model.specs.declared.command.Cmd.{Cmd}
use Rattle.vk_model.specs.declared.command.Cmd.TheVariants as cmd
use Rattle.vk_model.specs.declared.command.Length.{Length}
use Rattle.vk_model.specs.declared.entry.Entry.{Entry}
use Rattle.vk_model.specs.declared.entry.Entry.TheVariants as entry
use Rattle.vk_model.specs.declared.rule.Rule.{Rule}
use Rattle.vk_model.specs.declared.rule.Rule.TheVariants as rule
use Rattle.vk_model.specs.Basics.{holds}
use Rattle.vk_model.specs.Trace.Point.{Past, Point, Action, Host, Run, host_of, command_of}
use Rattle.vk_model.specs.declared.resource.ImageInfo.{ImageInfo}
use Rattle.vk_model.specs.Trace.Objects.{made, made_by, live, ended, buffer, image, image_in}
use Rattle.vk_model.specs.World.Areas.{Area, Bytes, areas_read, areas_written}
use Rattle.vk_model.specs.World.ByteWrites.{buffer_size, fill_size}
use Rattle.vk_model.specs.Rules.Ids.{breaks_new_id, breaks_live_id, is_dead, is_buffer, is_image, until, asked_by, asked_by_entry, asked_by_command, lists_stray}
use Rattle.vk_model.specs.Rules.Ranges.{breaks_range, breaks_format, breaks_subresource, area_past, host_past, command_past}
use Rattle.vk_model.specs.Rules.Table.{fault, breaks}
use Rattle.vk_model.specs.Rules.Fault.{newest}
use Rattle.vk_model.proofs.Rules.Fault.{unbroken_of_none, fault-cons_none}
use Rattle.vk_model.proofs.Lists.Members.{member_passes, map_has, contains-head}
use Rattle.vk_model.proofs.Lists.Truths.{clash}
use Rattle.vk_laws.proofs.Nodes.Steady.{made_step, made_until, new_ids}
use Rattle.vk_history.specs.Judged.{IsJudged}

-- the past of a judged point is judged
pub judged_rest : (past : Past) (p : Point) → IsJudged (p ∷ past) → IsJudged past
judged_rest past p j = record { ordered = j.ordered.1; faultless = (fault-cons_none past p j.faultless).0 }

-- what came before a point without a fault has none
pub fault_rest : (past : Past) (p : Point) → fault (p ∷ past) ≡ None → fault past ≡ None
fault_rest past p clean = (fault-cons_none past p clean).0

-- a point that comes next breaks none of the rules on what it names and reaches
pub record IsWithin (past : Past) (p : Point) : Type 0 where
  pub faultless : fault past ≡ None
  pub live : breaks_live_id past p ≡ false
  pub range : breaks_range past p ≡ false
  pub format : breaks_format past p ≡ false
  pub subresource : breaks_subresource past p ≡ false

-- what is named is there, of the kind asked
live_there : (past : Past) (r : ℕ) (kind : Entry → Bool) → holds (live past r) kind ≡ true → (x : Entry) × (made past r ≡ Some x) × (kind x ≡ true)
live_there past r kind h = go (ended past r) (made past r) refl h where
  go : (t : Bool) (m : Option Entry) → made past r ≡ m → holds (if t then None else m) kind ≡ true → (x : Entry) × (made past r ≡ Some x) × (kind x ≡ true)
  go true m e h = absurd cc
  go false None e h = absurd cc
  go false (Some x) e h = (x, e, h)

not_dead : (past : Past) (xs : List (ℕ × (Entry → Bool))) (rest : Bool) → (list_any (is_dead past) xs || rest) ≡ false → (r : ℕ) (kind : Entry → Bool) → Contains xs (r, kind) → holds (live past r) kind ≡ true
not_dead past xs rest none r kind c = go (holds (live past r) kind) refl where
  go : (t : Bool) → holds (live past r) kind ≡ t → t ≡ true
  go true e = refl
  go false e = let dead : list_any (is_dead past) xs ≡ true = member_passes (is_dead past) xs (r, kind) c (ap not e) in absurd (let bad : true ≡ false = rw dead at none in cc)

-- what doesn't end past a buffer lies in it
area_in : (past : Past) (xs : List Area) → list_any (area_past past) xs ≡ false → (b o n : ℕ) → Contains xs (Bytes b o n) → o + n ≤ buffer_size past b
area_in past xs none b o n c = ltb-false (buffer_size past b) (o + n) (false_from_ne_true _ (λ h. clash (member_passes (area_past past) xs (Bytes b o n) c h) none))

left_false : (a b : Bool) → (a || b) ≡ false → a ≡ false
left_false true b e = absurd cc
left_false false b e = refl

right_false : (a b : Bool) → (a || b) ≡ false → b ≡ false
right_false true b e = absurd cc
right_false false b e = e

-- by what its rules on ids and ranges say
module _ (past : Past) (p : Point) (faultless : fault past ≡ None) (live_id : breaks_live_id past p ≡ false) (within_range : breaks_range past p ≡ false) where
  -- the buffers that an entry names are there
  pub host_there : (x : Entry) → p.action ≡ Host x → (b : ℕ) → Contains (asked_by_entry x) (b, is_buffer) → is_some (buffer past b) ≡ true
  host_there x is b c =
      let alive = not_dead past (asked_by_entry x) _ (subst (λ (d : Action). (list_any (is_dead (if is_some (host_of d) then past else until p.entry past)) (asked_by d) || holds (host_of d) (lists_stray past)) ≡ false) is live_id) b is_buffer c in
      let m = live_there past b is_buffer alive in
      rw (m.1) (m.2)

  -- and what a command names
  pub named_by_command : (c : Cmd) → p.action ≡ Run c → (r : ℕ) (kind : Entry → Bool) → Contains (asked_by_command c) (r, kind) → (x : Entry) × (made past r ≡ Some x) × (kind x ≡ true)
  named_by_command c is r kind m =
      let alive = not_dead (until p.entry past) (asked_by_command c) _ (subst (λ (d : Action). (list_any (is_dead (if is_some (host_of d) then past else until p.entry past)) (asked_by d) || holds (host_of d) (lists_stray past)) ≡ false) is live_id) r kind m in
      let was = live_there (until p.entry past) r kind alive in
      (was.0, made_until p.entry past r was.0 (new_ids past (unbroken_of_none past faultless)) was.1, was.2)

  pub command_there : (c : Cmd) → p.action ≡ Run c → (b : ℕ) → Contains (asked_by_command c) (b, is_buffer) → is_some (buffer past b) ≡ true
  command_there c is b m = let was = named_by_command c is b is_buffer m in rw (was.1) (was.2)

  -- an image that it names
  pub image_there : (c : Cmd) → p.action ≡ Run c → (i : ℕ) → Contains (asked_by_command c) (i, is_image) → (m : ImageInfo) × (image past i ≡ Some m)
  image_there c is i named = let was = named_by_command c is i is_image named in go (image_in was.0) refl was.1 was.2 where
    go : {x : Entry} (o : Option ImageInfo) → image_in x ≡ o → made past i ≡ Some x → is_some (image_in x) ≡ true → (m : ImageInfo) × (image past i ≡ Some m)
    go None e made some = absurd (let bad : false ≡ true = rw e at some in cc)
    go (Some m) e made some = (m, rw made e)

  -- the ranges that they name lie in their buffers
  host_in : (x : Entry) → p.action ≡ Host x → host_past past x ≡ false
  host_in x is = left_false (host_past past x) false (subst (λ (d : Action). (holds (host_of d) (host_past past) || holds (command_of d) (command_past past)) ≡ false) is within_range)

  pub read_fits : (b o n : ℕ) → p.action ≡ Host (entry.Read b o n) → o + n ≤ buffer_size past b
  read_fits b o n is = ltb-false (buffer_size past b) (o + n) (host_in (entry.Read b o n) is)

  pub set_fits : (b o : ℕ) (bytes : List ℕ) → p.action ≡ Host (entry.Write b o bytes) → o + length bytes ≤ buffer_size past b
  set_fits b o bytes is = ltb-false (buffer_size past b) (o + length bytes) (host_in (entry.Write b o bytes) is)

  areas_in : (c : Cmd) → p.action ≡ Run c → (list_any (area_past past) (areas_read past c) ≡ false) × (list_any (area_past past) (areas_written past c) ≡ false)
  areas_in c is =
      let whole : command_past past c ≡ false = subst (λ (d : Action). (holds (host_of d) (host_past past) || holds (command_of d) (command_past past)) ≡ false) is within_range in
      let both : (list_any (area_past past) (areas_read past c) || list_any (area_past past) (areas_written past c)) ≡ false =
      sym (list_any-append (area_past past) (areas_read past c) (areas_written past c)) ∙ left_false _ _ (left_false _ _ (left_false _ _ whole)) in
      (left_false _ _ both, right_false _ _ both)

  pub fill_fits : (b o : ℕ) (n : Length) (w : ℕ) → p.action ≡ Run (cmd.Fill b o n w) → o + fill_size (buffer_size past b) o n ≤ buffer_size past b
  fill_fits b o n w is = area_in past (areas_written past (cmd.Fill b o n w)) (areas_in (cmd.Fill b o n w) is).1 b o (fill_size (buffer_size past b) o n) (contains-head _ [])

  pub update_fits : (b o : ℕ) (bytes : List ℕ) → p.action ≡ Run (cmd.Update b o bytes) → o + length bytes ≤ buffer_size past b
  update_fits b o bytes is = area_in past (areas_written past (cmd.Update b o bytes)) (areas_in (cmd.Update b o bytes) is).1 b o (length bytes) (contains-head _ [])

  pub copy_reads_fit : (s d : ℕ) (gs : List BufferCopy) → p.action ≡ Run (cmd.Copy s d gs) → (g : BufferCopy) → Contains gs g → g.source_offset + g.size ≤ buffer_size past s
  copy_reads_fit s d gs is g c = area_in past (areas_read past (cmd.Copy s d gs)) (areas_in (cmd.Copy s d gs) is).0 s g.source_offset g.size (map_has (λ (g : BufferCopy). Bytes s g.source_offset g.size) gs g c)

  pub copy_writes_fit : (s d : ℕ) (gs : List BufferCopy) → p.action ≡ Run (cmd.Copy s d gs) → (g : BufferCopy) → Contains gs g → g.destination_offset + g.size ≤ buffer_size past d
  copy_writes_fit s d gs is g c = area_in past (areas_written past (cmd.Copy s d gs)) (areas_in (cmd.Copy s d gs) is).1 d g.destination_offset g.size (map_has (λ (g : BufferCopy). Bytes d g.destination_offset g.size) gs g c)

module _ (past : Past) (p : Point) (clean : fault (p ∷ past) ≡ None) where
  pub unbroken : (r : Rule) → breaks r past p ≡ false
  unbroken r = false_from_ne_true (breaks r past p) (λ h. unbroken_of_none (p ∷ past) clean past p r (newest, h))

  pub new_id : breaks_new_id past p ≡ false
  unfolding breaks
  new_id = unbroken rule.NewId

  pub live_id : breaks_live_id past p ≡ false
  unfolding breaks
  live_id = unbroken rule.LiveId

  pub within_range : breaks_range past p ≡ false
  unfolding breaks
  within_range = unbroken rule.Range

  -- what was made stays
  pub made_kept : (i : ℕ) (x : Entry) → made past i ≡ Some x → made (p ∷ past) i ≡ Some x
  made_kept i x is = made_step past p i x (λ h. clash h new_id) is

  -- what an entry makes wasn't made
  pub was_unmade : (x : Entry) (i : ℕ) → p.action ≡ Host x → made_by x ≡ Some i → made past i ≡ None
  was_unmade x i is by = go (made past i) refl where
    go : (o : Option Entry) → made past i ≡ o → o ≡ None
    go None e = refl
    go (Some y) e = absurd (let broken : breaks_new_id past p ≡ true = rw (is, by, e) refl in let bad : true ≡ false = sym broken ∙ new_id in cc)

  pub there_on_host : (x : Entry) → p.action ≡ Host x → (b : ℕ) → Contains (asked_by_entry x) (b, is_buffer) → is_some (buffer past b) ≡ true
  there_on_host = host_there past p (fault_rest past p clean) live_id within_range

  pub there_for_command : (c : Cmd) → p.action ≡ Run c → (b : ℕ) → Contains (asked_by_command c) (b, is_buffer) → is_some (buffer past b) ≡ true
  there_for_command = command_there past p (fault_rest past p clean) live_id within_range

  -- the image that a command names
  pub image_for_command : (c : Cmd) → p.action ≡ Run c → (i : ℕ) → Contains (asked_by_command c) (i, is_image) → (m : ImageInfo) × (image past i ≡ Some m)
  image_for_command = image_there past p (fault_rest past p clean) live_id within_range

  -- so all that it names is there, and it reaches past nothing
  pub clean_within : IsWithin past p
  unfolding breaks
  clean_within = record { faultless = fault_rest past p clean; live = live_id; range = within_range; format = unbroken rule.Format; subresource = unbroken rule.Subresource }

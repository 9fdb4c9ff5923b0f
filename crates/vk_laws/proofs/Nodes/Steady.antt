-- What a command reads and writes stays as it was when its point came, since ids are never made twice and are alive when they're named.
use Rattle.std.proofs.Common.{◌≡◌, ℕ, [], ◌∷◌, ◌++◌, map, Bool, true, false, cond, ◌&&◌, IsTrue, Option, Some, None, refl, ap, sym, ◌∙◌, subst}
use Rattle.std.specs.Prelude.{◌==◌, ◌%◌, ◌+◌, is_some, option_and_then, if◌then◌else◌}
use Rattle.std.specs.List.{list_any, find, cons_option, flat_map}
use Rattle.std.proofs.lemmas.Bool.{eqb-true, or_left, or_right}
use Rattle.vk_model.specs.declared.command.Cmd.{Cmd}
use Rattle.vk_model.specs.declared.command.Cmd.TheVariants as cmd
use Rattle.vk_model.specs.declared.entry.Entry.{Entry}
use Rattle.vk_model.specs.Basics.{holds, below, byte_of}
use Rattle.vk_model.specs.World.Bytes.{in_buffer}
use Rattle.vk_model.specs.Trace.Point.{Past, Point, Action, Run, host_of, entries}
use Rattle.vk_model.specs.Trace.Objects.{made_by, made, ended, live, buffer_in, image_in}
use Rattle.vk_model.specs.World.ByteWrites.{Value, byte_write, byte_writes, fill_size, clear_writes, copy_in_writes, copy_out_writes, copy_image_writes}
use Rattle.vk_model.specs.Run.Pieces.{cut, row_bytes, clear_pieces, pieces}
use Rattle.vk_model.specs.Rules.Ids.{breaks_new_id, breaks_live_id, is_dead, asked_by, asked_by_command, until}
use Rattle.vk_model.specs.Rules.Fault.{Comes, newest, older, IsUnbroken}
use Rattle.vk_model.proofs.Lists.Truths.{unless}
use Rattle.vk_model.specs.Rules.Table.{breaks}
use Rattle.vk_model.specs.declared.rule.Rule.TheVariants as rule

-- ---- objects

-- a point that makes no id anew leaves each id's object
pub made_step : (past : Past) (q : Point) (i : ℕ) (x : Entry) → (IsTrue (breaks_new_id past q) → ⊥) → made past i ≡ Some x → made (q ∷ past) i ≡ Some x
made_step past q i x new is = go (host_of q.action) new
  where
    pick : (e : Entry) (j : ℕ) → (IsTrue (is_some (made past j)) → ⊥) → (b : Bool) → (i == j) ≡ b → cond b (Some e) (made past i) ≡ Some x
    pick e j n false same = is
    pick e j n true same = absurd (n (subst (λ (k : ℕ). IsTrue (is_some (made past k))) (eqb-true i j same) (ap is_some is)))

    by_id : (e : Entry) (m : Option ℕ) → (IsTrue (holds m (λ j. is_some (made past j))) → ⊥) → cond (holds m (λ j. i == j)) (Some e) (made past i) ≡ Some x
    by_id e None n = is
    by_id e (Some j) n = pick e j n (i == j) refl

    go : (h : Option Entry) → (IsTrue (holds h (λ e. holds (made_by e) (λ j. is_some (made past j)))) → ⊥) → find (λ e. holds (made_by e) (λ j. i == j)) (cons_option h (entries past)) ≡ Some x
    go None n = is
    go (Some e) n = by_id e (made_by e) n

-- no point of a past makes an id anew
abbrev pub IsNew : Past → Type 0
IsNew all = (b : Past) (q : Point) → Comes all b q → IsTrue (breaks_new_id b q) → ⊥

-- each id that a point of a past names is alive
abbrev pub IsLive : Past → Type 0
IsLive all = (b : Past) (q : Point) → Comes all b q → IsTrue (breaks_live_id b q) → ⊥

pub new_ids : (all : Past) → IsUnbroken all → IsNew all
unfolding breaks
new_ids all sound b q c h = sound b q rule.NewId (c, h)

pub live_ids : (all : Past) → IsUnbroken all → IsLive all
unfolding breaks
live_ids all sound b q c h = sound b q rule.LiveId (c, h)

pub made_up : (more past : Past) (i : ℕ) (x : Entry) → IsNew (more ++ past) → made past i ≡ Some x → made (more ++ past) i ≡ Some x
made_up [] past i x new is = is
made_up (q ∷ more) past i x new is = made_step (more ++ past) q i x (new (more ++ past) q newest) (made_up more past i x (λ b r c. new b r (older c)) is)

pub made_until : (e : ℕ) (past : Past) (i : ℕ) (x : Entry) → IsNew past → made (until e past) i ≡ Some x → made past i ≡ Some x
made_until e [] i x new is = is
made_until e (q ∷ past) i x new is = made_step past q i x (new past q newest) (go (made_until e past i x (λ b r c. new b r (older c))) (q.entry == e && is_some (host_of q.action)) is)
  where
    go : (made (until e past) i ≡ Some x → made past i ≡ Some x) → (b : Bool) → made (if b then past else until e past) i ≡ Some x → made past i ≡ Some x
    go rest true is = is
    go rest false is = rest is

pub live_made : (past : Past) (i : ℕ) (k : Entry → Bool) → IsTrue (holds (live past i) k) → (x : Entry) × (made past i ≡ Some x)
live_made past i k h = go (ended past i) (made past i) refl h
  where
    go : (b : Bool) (m : Option Entry) → made past i ≡ m → IsTrue (holds (if b then None else m) k) → (x : Entry) × (made past i ≡ Some x)
    go true m e h = absurd cc
    go false None e h = absurd cc
    go false (Some x) e h = (x, e)

-- ---- commands

-- where two pasts have the same objects of the ids that a command names, they have the same byte writes and pieces of it
module _ (judged one other : Past) (same : (i : ℕ) (k : Entry → Bool) → (IsTrue (is_dead judged (i, k)) → ⊥) → made one i ≡ made other i) where
  pub writes_same : (c : Cmd) → (IsTrue (list_any (is_dead judged) (asked_by_command c)) → ⊥) → byte_writes one c ≡ byte_writes other c
  writes_same (cmd.Fill b o n w) alive =
      ap (λ (m : Option Entry). map (λ k. byte_write (in_buffer b (o + k)) (Value (byte_of w (k % 4)))) (below (fill_size (elim (option_and_then buffer_in m) [ None ↦ 0 | Some x ↦ x.size ]) o n)))
      (same b _ (λ h. alive (or_left _ _ h)))
  writes_same (cmd.Update b o bytes) alive = refl
  writes_same (cmd.Copy s d gs) alive = refl
  writes_same (cmd.Clear i l color rs) alive = ap (λ (m : Option Entry). flat_map (clear_writes i color (option_and_then image_in m)) rs) (same i _ (λ h. alive (or_left _ _ h)))
  writes_same (cmd.CopyIn b i l gs) alive = ap (λ (m : Option Entry). flat_map (copy_in_writes b i (option_and_then image_in m)) gs) (same i _ (λ h. alive (or_right _ _ (or_left _ _ h))))
  writes_same (cmd.CopyOut i l b gs) alive = ap (λ (m : Option Entry). flat_map (copy_out_writes i b (option_and_then image_in m)) gs) (same i _ (λ h. alive (or_left _ _ h)))
  writes_same (cmd.CopyImage s l d m gs) alive = ap (λ (x : Option Entry). flat_map (copy_image_writes s d (option_and_then image_in x)) gs) (same d _ (λ h. alive (or_right _ _ (or_left _ _ h))))
  writes_same (cmd.Barrier es) alive = refl
  writes_same (cmd.Set v ms) alive = refl
  writes_same (cmd.Await v ms) alive = refl

  pub pieces_same : (c : Cmd) → (IsTrue (list_any (is_dead judged) (asked_by_command c)) → ⊥) → pieces one c ≡ pieces other c
  pieces_same (cmd.Fill b o n w) alive = ap (cut 4096) (writes_same (cmd.Fill b o n w) alive)
  pieces_same (cmd.Update b o bytes) alive = refl
  pieces_same (cmd.Copy s d gs) alive = refl
  pieces_same (cmd.Clear i l color rs) alive = ap (λ (m : Option Entry). flat_map (clear_pieces i color (option_and_then image_in m)) rs) (same i _ (λ h. alive (or_left _ _ h)))
  pieces_same (cmd.CopyIn b i l gs) alive =
      ap (λ (m : Option Entry). flat_map (λ g. cut (row_bytes (option_and_then image_in m) g.width) (copy_in_writes b i (option_and_then image_in m) g)) gs) (same i _ (λ h. alive (or_right _ _ (or_left _ _ h))))
  pieces_same (cmd.CopyOut i l b gs) alive =
      ap (λ (m : Option Entry). flat_map (λ g. cut (row_bytes (option_and_then image_in m) g.width) (copy_out_writes i b (option_and_then image_in m) g)) gs) (same i _ (λ h. alive (or_left _ _ h)))
  pieces_same (cmd.CopyImage s l d m gs) alive =
      ap (λ (x : Option Entry). flat_map (λ g. cut (row_bytes (option_and_then image_in x) g.width) (copy_image_writes s d (option_and_then image_in x) g)) gs) (same d _ (λ h. alive (or_right _ _ (or_left _ _ h))))
  pieces_same (cmd.Barrier es) alive = refl
  pieces_same (cmd.Set v ms) alive = refl
  pieces_same (cmd.Await v ms) alive = refl

-- ---- a sound past

pub comes_here : (more past : Past) (p : Point) → Comes (more ++ p ∷ past) past p
comes_here [] past p = newest
comes_here (q ∷ more) past p = older (comes_here more past p)

pub comes_later : (newer all b : Past) (q : Point) → Comes all b q → Comes (newer ++ all) b q
comes_later [] all b q c = c
comes_later (r ∷ newer) all b q c = older (comes_later newer all b q c)

pub comes_within : (all newer past : Past) → all ≡ newer ++ past → (b : Past) (q : Point) → Comes past b q → Comes all b q
comes_within all newer past whole b q c = subst (λ (l : Past). Comes l b q) (sym whole) (comes_later newer past b q c)

-- an id that a point's command names has the same object from then on
made_stay : (newer past : Past) (p : Point) → IsNew (newer ++ p ∷ past) → (i : ℕ) (k : Entry → Bool) → (IsTrue (is_dead (until p.entry past) (i, k)) → ⊥) → made (newer ++ p ∷ past) i ≡ made past i
made_stay newer past p new i k alive =
    let l = live_made (until p.entry past) i k (unless (holds (live (until p.entry past) i) k) alive) in
    let old = made_until p.entry past i l.0 (λ b q h. new b q (comes_later newer (p ∷ past) b q (older h))) l.1 in
    let next = made_step past p i l.0 (new past p (comes_here newer past p)) old in
    made_up newer (p ∷ past) i l.0 new next ∙ sym old

module _ (whole newer past : Past) (p : Point) (c : Cmd) (split : whole ≡ newer ++ p ∷ past) (action : p.action ≡ Run c)
    (new : (b : Past) (q : Point) → Comes whole b q → IsTrue (breaks_new_id b q) → ⊥) (alive : (b : Past) (q : Point) → Comes whole b q → IsTrue (breaks_live_id b q) → ⊥) where
  come : (b : Past) (q : Point) → Comes (newer ++ p ∷ past) b q → Comes whole b q
  come b q h = subst (λ (l : Past). Comes l b q) (sym split) h

  pub named_alive : IsTrue (list_any (is_dead (until p.entry past)) (asked_by_command c)) → ⊥
  named_alive h =
      let dead : (d : Action) → Bool = λ d. list_any (is_dead (if is_some (host_of d) then past else until p.entry past)) (asked_by d) in
      alive past p (come past p (comes_here newer past p)) (or_left _ _ (subst (λ (d : Action). IsTrue (dead d)) (sym action) h))

  same_objects : (i : ℕ) (k : Entry → Bool) → (IsTrue (is_dead (until p.entry past) (i, k)) → ⊥) → made whole i ≡ made past i
  same_objects i k live = ap (λ (l : Past). made l i) split ∙ made_stay newer past p (λ b q h. new b q (come b q h)) i k live

  -- a command's byte writes and pieces are those of the past before its point
  pub kept_writes : byte_writes whole c ≡ byte_writes past c
  kept_writes = writes_same (until p.entry past) whole past same_objects c named_alive

  pub kept_pieces : pieces whole c ≡ pieces past c
  kept_pieces = pieces_same (until p.entry past) whole past same_objects c named_alive

pub commands_stay : (whole newer between past : Past) (p : Point) (c : Cmd) → whole ≡ newer ++ (between ++ p ∷ past) → p.action ≡ Run c
    → ((b : Past) (q : Point) → Comes whole b q → IsTrue (breaks_new_id b q) → ⊥) → ((b : Past) (q : Point) → Comes whole b q → IsTrue (breaks_live_id b q) → ⊥)
    → byte_writes (between ++ p ∷ past) c ≡ byte_writes (p ∷ past) c
commands_stay whole newer between past p c same action new alive =
    let middle = between ++ p ∷ past in
    let come : (b : Past) (q : Point) → Comes middle b q → Comes whole b q = λ b q h. comes_within _ newer middle same b q h in
    let low : (b : Past) (q : Point) → Comes (p ∷ past) b q → Comes whole b q = λ b q h. come b q (comes_later between (p ∷ past) b q h) in
    kept_writes middle between past p c refl action (λ b q h. new b q (come b q h)) (λ b q h. alive b q (come b q h))
    ∙ sym (kept_writes (p ∷ past) [] past p c refl action (λ b q h. new b q (low b q h)) (λ b q h. alive b q (low b q h)))

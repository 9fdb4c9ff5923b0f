-- What a byte remembers after a point.
use Rattle.std.proofs.Common.{arith, ◌<◌, ◌≡◌, ℕ, zero, suc, ◌∷◌, Bool, true, false, ◌&&◌, ◌==◌, refl, ap, ◌∙◌, Option, Some, None}
use Rattle.std.specs.Prelude.{if◌then◌else◌}
use Rattle.std.specs.Option.{option_map, option_or}
use Rattle.std.proofs.lemmas.Bool.{eqb-true, false_from_ne_true}
use Rattle.std.proofs.Math.Bool.{and-false}
use Rattle.vk_model.specs.declared.command.Cmd.{Cmd}
use Rattle.vk_model.specs.declared.command.Cmd.TheVariants as cmd
use Rattle.vk_model.specs.declared.command.Length.{Length}
use Rattle.vk_model.specs.declared.entry.Entry.{Entry}
use Rattle.vk_model.specs.declared.entry.Entry.TheVariants as entry
use Rattle.vk_model.specs.Basics.{holds}
use Rattle.vk_model.specs.World.Bytes.{Byte}
use Rattle.vk_model.specs.World.ByteWrites.{byte_writes}
use Rattle.vk_model.specs.Trace.Point.{Past, Point, Action, Host, Run}
use Rattle.vk_model.specs.World.Effect.{reaches}
use Rattle.vk_model.specs.Sync.Node.{Hosts, nodes}
use Rattle.vk_model.specs.Sync.Seen.{Read, seen, flushes, invalidates}
use Rattle.vk_order.specs.Cached.{uncached}
use Rattle.vk_model.specs.Sync.Access.{is_in, targets, origins, host_reads, host_writes}
use Rattle.vk_touches.specs.declared.touches.LastTouches.{LastTouches}
use Rattle.vk_touches.specs.declared.touches.Spot.{Spot}
use Rattle.vk_touches.specs.declared.touches.Touch.{Touch}
use Rattle.vk_touches.specs.declared.touches.Touch.TheVariants as touch
use Rattle.vk_touches.specs.Remembered.{with_touch, with_flush, with_invalidation}
use Rattle.vk_touches.specs.Touched.{touches, has_transition, touched, last_spot, last_place, last_touch, transition_spot, next_node, act_next, next_spot}
use Rattle.vk_touches.proofs.Touching.Flushing.{flush_step, invalidated_step}
use Rattle.vk_touches.proofs.Touching.LastTransitions.{transition_stays}
use Rattle.vk_touches.proofs.Touching.Spots.{last_step}

-- ---- in general

-- what a byte remembers, where some touches were made at a spot
abbrev pub merged : (write host_write host_read : Bool) → (ℕ → Bool) → (flush invalidation sees : Bool) → LastTouches → Spot → LastTouches
merged w hw hr r f i sees t s = record {
  write = if w then Some s else t.write;
  is_invalidated = if w then false else if i then sees else t.is_invalidated;
  host_write = if hw then Some s else t.host_write;
  flush = if hw then None else if f then option_or t.flush (Some s) else t.flush;
  transition = t.transition;
  host_read = if hr then Some s.place else t.host_read;
  reads = record { first = if r 0 then Some s.place else t.reads.first; second = if r 1 then Some s.place else t.reads.second; third = if r 2 then Some s.place else t.reads.third; fourth = if r 3 then Some s.place else t.reads.fourth };
}

abbrev built : Option Spot → Bool → (hw f x : Option Spot) → (hr i j k l : Option ℕ) → LastTouches
built w iv hw f x hr i j k l = record { write = w; is_invalidated = iv; host_write = hw; flush = f; transition = x; host_read = hr; reads = record { first = i; second = j; third = k; fourth = l } }

all_same : (w v : Option Spot) (c d : Bool) (a x g h : Option Spot) (s : Option Spot) (z y i m j n k o l q : Option ℕ) → w ≡ v → c ≡ d → a ≡ x → g ≡ h → z ≡ y → i ≡ m → j ≡ n → k ≡ o → l ≡ q → built w c a g s z i j k l ≡ built v d x h s y m n o q
all_same w v c d a x g h s z y i m j n k o l q e1 e2 e3 e4 e5 e6 e7 e8 e9 = rw (e1, e2, e3, e4, e5, e6, e7, e8, e9) refl

module _ (past : Past) (p : Point) (b : Byte) where
  place_step : (t : Touch) → last_place t (p ∷ past) b ≡ (if touches t b past p p.action then Some (next_spot past p).place else last_place t past b)
  place_step t = ap (option_map (λ (s : Spot). s.place)) (last_step t past p b) ∙ go (touches t b past p p.action) where
    go : (test : Bool) → option_map (λ (s : Spot). s.place) (if test then Some (next_spot past p) else last_spot t past b) ≡ (if test then Some (next_spot past p).place else last_place t past b)
    go true = refl
    go false = refl

  -- what the point touches, by an action
  abbrev by_action : Action → LastTouches
  by_action d = merged (touches touch.Write b past p d) (touches touch.HostWrite b past p d) (touches touch.HostRead b past p d) (λ q. touches (touch.Read q) b past p d) (flushes (act_next d) b) (invalidates (act_next d) b)
      (holds (last_touch touch.Write past b) (λ v. seen uncached (nodes (p ∷ past)) v (next_node past p (act_next d)) Read b)) (touched past b) (next_spot past p)

  -- all but the last transition
  touched_step : touched (p ∷ past) b ≡ record (by_action p.action) { transition = transition_spot (p ∷ past) b }
  touched_step =
      all_same _ _ _ _ _ _ _ _ (transition_spot (p ∷ past) b) _ _ _ _ _ _ _ _ _ _ (last_step touch.Write past p b) (invalidated_step past p b) (last_step touch.HostWrite past p b) (flush_step past p b) (place_step touch.HostRead) (place_step (touch.Read 0)) (place_step (touch.Read 1)) (place_step (touch.Read 2)) (place_step (touch.Read 3))

  -- a point that has no transition of the byte, by an action
  touched_as : (d : Action) → p.action ≡ d → has_transition b past p d ≡ false → touched (p ∷ past) b ≡ by_action d
  touched_as d is none =
      touched_step
      ∙ ap (λ (s : Option Spot). record (by_action p.action) { transition = s }) (transition_stays past p b (ap (has_transition b past p) is ∙ none))
      ∙ ap by_action is

  -- ---- by what the point is

  -- a point that touches nothing
  pub touched_by_none : (d : Action) → p.action ≡ d → has_transition b past p d ≡ false → ((t : Touch) → touches t b past p d ≡ false) → flushes (act_next d) b ≡ false → invalidates (act_next d) b ≡ false → touched (p ∷ past) b ≡ touched past b
  touched_by_none d is still none unflushed valid = touched_as d is still ∙ rw (none touch.Write, none touch.HostWrite, none touch.HostRead, none (touch.Read 0), none (touch.Read 1), none (touch.Read 2), none (touch.Read 3), unflushed, valid) refl

  -- a host entry that neither flushes nor invalidates
  pub touched_by_host : (x : Entry) → p.action ≡ Host x → (w r : Bool) → is_in b (host_writes x) ≡ w → is_in b (host_reads x) ≡ r → flushes (Hosts x) b ≡ false → invalidates (Hosts x) b ≡ false
      → touched (p ∷ past) b ≡ merged false w r (λ q. false) false false false (touched past b) (next_spot past p)
  touched_by_host x is w r we re unflushed valid = touched_as (Host x) is refl ∙ rw (we, re, unflushed, valid) refl

  -- a flush
  pub touched_by_flush : (c o : ℕ) (n : Length) → p.action ≡ Host (entry.Flush c o n) → (t : Bool) → reaches c o n b ≡ t → touched (p ∷ past) b ≡ (if t then with_flush (touched past b) (next_spot past p) else touched past b)
  touched_by_flush c o n is t e = touched_as (Host (entry.Flush c o n)) is refl ∙ rw e (go t) where
    go : (t : Bool) → merged false false false (λ q. false) t false false (touched past b) (next_spot past p) ≡ (if t then with_flush (touched past b) (next_spot past p) else touched past b)
    go true = refl
    go false = refl

  -- an invalidation
  pub touched_by_invalidation : (c o : ℕ) (n : Length) → p.action ≡ Host (entry.Invalidate c o n) → (t sees : Bool) → reaches c o n b ≡ t
      → (t ≡ true → holds (last_touch touch.Write past b) (λ v. seen uncached (nodes (p ∷ past)) v (next_node past p (act_next p.action)) Read b) ≡ sees)
      → touched (p ∷ past) b ≡ (if t then with_invalidation (touched past b) sees else touched past b)
  touched_by_invalidation c o n is t sees e answer = touched_step ∙ ap (λ (s : Option Spot). record (by_action p.action) { transition = s }) (transition_stays past p b (ap (has_transition b past p) is)) ∙ ap (λ (d : Action). merged (touches touch.Write b past p d) (touches touch.HostWrite b past p d) (touches touch.HostRead b past p d) (λ q. touches (touch.Read q) b past p d) (flushes (act_next d) b) (invalidates (act_next d) b)
      (holds (last_touch touch.Write past b) (λ v. seen uncached (nodes (p ∷ past)) v (next_node past p (act_next p.action)) Read b)) (touched past b) (next_spot past p)) is ∙ rw e (go t answer) where
        go : (t : Bool) → (t ≡ true → holds (last_touch touch.Write past b) (λ v. seen uncached (nodes (p ∷ past)) v (next_node past p (act_next p.action)) Read b) ≡ sees)
            → merged false false false (λ q. false) false t (holds (last_touch touch.Write past b) (λ v. seen uncached (nodes (p ∷ past)) v (next_node past p (act_next p.action)) Read b)) (touched past b) (next_spot past p)
            ≡ (if t then with_invalidation (touched past b) sees else touched past b)
        go true h = ap (with_invalidation (touched past b)) (h refl)
        go false h = refl

  -- a command, which is no barrier with a transition of the byte
  pub touched_by_command : (c : Cmd) → p.action ≡ Run c → has_transition b past p (Run c) ≡ false → (w r : Bool) → is_in b (targets (byte_writes (p ∷ past) c)) ≡ w → is_in b (origins (byte_writes (p ∷ past) c)) ≡ r
      → touched (p ∷ past) b ≡ merged w false false (λ q. p.queue == q && r) false false false (touched past b) (next_spot past p)
  touched_by_command c is still w r we re = touched_as (Run c) is still ∙ rw (we, re) refl

-- ---- one by one

pub merged_host_write : (w : Bool) (t : LastTouches) (s : Spot) → merged false w false (λ q. false) false false false t s ≡ (if w then with_touch t touch.HostWrite s else t)
merged_host_write true t s = refl
merged_host_write false t s = refl

pub merged_host_read : (r : Bool) (t : LastTouches) (s : Spot) → merged false false r (λ q. false) false false false t s ≡ (if r then with_touch t touch.HostRead s else t)
merged_host_read true t s = refl
merged_host_read false t s = refl

merged_read : (r : Bool) (q : ℕ) (t : LastTouches) (s : Spot) → merged false false false (λ x. q == x && r) false false false t s ≡ (if r then with_touch t (touch.Read q) s else t)
merged_read true zero t s = refl
merged_read true (suc zero) t s = refl
merged_read true (suc (suc zero)) t s = refl
merged_read true (suc (suc (suc zero))) t s = refl
merged_read true (suc (suc (suc (suc q)))) t s = rw (far 0 (omega arith), far 1 (omega arith), far 2 (omega arith), far 3 (omega arith)) refl where
  far : (n : ℕ) → n < 4 → (suc (suc (suc (suc q))) == n) ≡ false
  far n lt = false_from_ne_true _ (λ h. let e = eqb-true (suc (suc (suc (suc q)))) n h in omega (arith, e, lt))
merged_read false q t s = rw (and-false (q == 0), and-false (q == 1), and-false (q == 2), and-false (q == 3)) refl

merged_write : (w : Bool) (r : ℕ → Bool) (t : LastTouches) (s : Spot) → merged w false false r false false false t s ≡ (if w then with_touch (merged false false false r false false false t s) touch.Write s else merged false false false r false false false t s)
merged_write true r t s = refl
merged_write false r t s = refl

-- a command that reads a byte and writes it
pub merged_command : (w r : Bool) (q : ℕ) (t : LastTouches) (s : Spot) → merged w false false (λ x. q == x && r) false false false t s ≡ (if w then with_touch (if r then with_touch t (touch.Read q) s else t) touch.Write s else if r then with_touch t (touch.Read q) s else t)
merged_command w r q t s = merged_write w (λ x. q == x && r) t s ∙ ap (λ (u : LastTouches). if w then with_touch u touch.Write s else u) (merged_read r q t s)

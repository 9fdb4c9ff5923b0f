-- A write of a byte is seen as that of another byte with which all nodes do the same.
use Rattle.std.proofs.Common.{◌≡◌, ℕ, List, Bool, not, ◌&&◌, ◌||◌, refl, ap, ◌∙◌}
use Rattle.std.specs.Prelude.{Contains}
use Rattle.std.specs.List.{list_any}
use Rattle.vk_model.specs.declared.command.Element.{Element}
use Rattle.vk_model.specs.declared.command.Element.TheVariants as element
use Rattle.vk_model.specs.declared.entry.Entry.{Entry}
use Rattle.vk_model.specs.declared.entry.Entry.TheVariants as entry
use Rattle.vk_model.specs.Trace.Point.{Past}
use Rattle.vk_model.specs.Trace.Objects.{is_cached}
use Rattle.vk_model.specs.World.Bytes.{Byte, in_image, resource_at}
use Rattle.vk_model.specs.World.Ownership.{dependency_of, is_acquire, is_release}
use Rattle.vk_model.specs.Basics.{has_some}
use Rattle.vk_model.specs.Sync.Node.{Node, Act, Hosts, Waits, Signals, Runs, Depends, same_node, nodes}
use Rattle.vk_model.specs.Sync.Edge.{edge, is_host, is_submit}
use Rattle.vk_model.specs.Sync.Before.{before}
use Rattle.vk_model.specs.Sync.Seen.{Access, Read, Write, command_mask, host_mask, covers, flushes, invalidates, is_await, is_set, is_wait, to_host, passes, makes_writes_available, available_by, makes_writes_visible, needs_invalidation, visible_by, seen}
use Rattle.vk_model.proofs.Lists.Members.{any_same}
use Rattle.vk_hazards.specs.declared.hazards.Hazard.{Hazard}
use Rattle.vk_hazards.specs.declared.hazards.Hazard.TheVariants.{War, Raw, Waw}
use Rattle.vk_hazards.specs.Hazards.{is_missing}
use Rattle.vk_hazards.specs.Inner.Pairs.{IsAlike, AreAlike}

module _ (cached : Byte → Bool) (ns : List Node) (b c : Byte) (alike : AreAlike ns b c) (same : cached b ≡ cached c) where
  makes_same : (p : Node) (x : Act) → IsAlike x b c → makes_writes_available cached ns p b x ≡ makes_writes_available cached ns p c x
  makes_same p (Depends r e) is = ap (λ (t : Bool). not (is_await r) && not (is_acquire p.point.queue e) && has_some (dependency_of e).source_accesses.0 (command_mask Write) && t) is.covered
  makes_same p (Signals s) is = refl
  makes_same p (Hosts x) is = refl
  makes_same p (Waits s) is = refl
  makes_same p (Runs x) is = refl

  shows_same : (mask : ℕ) (q : Node) (x : Act) → IsAlike x b c → makes_writes_visible cached ns mask b q x ≡ makes_writes_visible cached ns mask c q x
  shows_same mask q (Depends r e) is = ap (λ (t : Bool). not (is_set r) && not (is_release q.point.queue e) && has_some (dependency_of e).destination_accesses.0 mask && t) is.covered
  shows_same mask q (Signals s) is = refl
  shows_same mask q (Hosts x) is = refl
  shows_same mask q (Waits s) is = refl
  shows_same mask q (Runs x) is = refl

  passes_same : (f g : Act → Bool) (m n : Node) → ((k : Node) → Contains ns k → f k.act ≡ g k.act) → passes cached ns f m n ≡ passes cached ns g m n
  passes_same f g m n each = any_same (λ k. f k.act && before ns m k && before ns k n) (λ k. g k.act && before ns m k && before ns k n) ns (λ k in_ns. ap (λ (t : Bool). t && before ns m k && before ns k n) (each k in_ns))

  available_same : (w : Node) (x : Act) (p : Node) → Contains ns p → available_by cached ns w x b p ≡ available_by cached ns w x c p
  available_same w (Runs x) p in_ns = ap (λ (t : Bool). edge ns w p && t) (makes_same p p.act (alike p in_ns))
  available_same w (Depends r e) p in_ns = refl
  available_same w (Hosts x) p in_ns =
      ap (λ (t : Bool). is_submit p.act && before ns w p && (not t || passes cached ns (λ f. flushes f b) w p)) same
      ∙ ap (λ (t : Bool). is_submit p.act && before ns w p && (not (cached c) || t)) (passes_same (λ f. flushes f b) (λ f. flushes f c) w p (λ k in_all. (alike k in_all).flushed))
  available_same w (Waits s) p in_ns = refl
  available_same w (Signals s) p in_ns = refl

  needs_same : (k : Access) → needs_invalidation cached ns k b ≡ needs_invalidation cached ns k c
  needs_same Read = same
  needs_same Write = refl

  visible_same : (w a : Node) (x : Act) (k : Access) (q : Node) → Contains ns q → visible_by cached ns w a x k b q ≡ visible_by cached ns w a x k c q
  visible_same w a (Runs x) k q in_ns = ap (λ (t : Bool). edge ns q a && (t || is_wait q.act || is_host w.act && is_submit q.act)) (shows_same (command_mask k) q q.act (alike q in_ns))
  visible_same w a (Depends r e) k q in_ns = refl
  visible_same w a (Hosts x) k q in_ns =
      ap (λ (t : Bool). before ns q a && to_host q.act && t && (not (needs_invalidation cached ns k b) || passes cached ns (λ f. invalidates f b) q a)) (shows_same (host_mask k) q q.act (alike q in_ns))
      ∙ ap (λ (t : Bool). before ns q a && to_host q.act && makes_writes_visible cached ns (host_mask k) c q q.act && (not t || passes cached ns (λ f. invalidates f b) q a)) (needs_same k)
      ∙ ap (λ (t : Bool). before ns q a && to_host q.act && makes_writes_visible cached ns (host_mask k) c q q.act && (not (needs_invalidation cached ns k c) || t)) (passes_same (λ f. invalidates f b) (λ f. invalidates f c) q a (λ k in_all. (alike k in_all).invalidated))
  visible_same w a (Waits s) k q in_ns = refl
  visible_same w a (Signals s) k q in_ns = refl

  pub seen_same : (w a : Node) (k : Access) → seen cached ns w a k b ≡ seen cached ns w a k c
  unfolding seen
  seen_same w a k = any_same
      (λ p. available_by cached ns w w.act b p && list_any (λ q. (same_node p q || before ns p q) && visible_by cached ns w a a.act k b q && (same_node q a || before ns q a)) ns)
      (λ p. available_by cached ns w w.act c p && list_any (λ q. (same_node p q || before ns p q) && visible_by cached ns w a a.act k c q && (same_node q a || before ns q a)) ns) ns
      (λ p in_ns.
      ap (λ (t : Bool). t && list_any (λ q. (same_node p q || before ns p q) && visible_by cached ns w a a.act k b q && (same_node q a || before ns q a)) ns) (available_same w w.act p in_ns)
      ∙ ap (λ (t : Bool). available_by cached ns w w.act c p && t) (any_same
      (λ q. (same_node p q || before ns p q) && visible_by cached ns w a a.act k b q && (same_node q a || before ns q a))
      (λ q. (same_node p q || before ns p q) && visible_by cached ns w a a.act k c q && (same_node q a || before ns q a)) ns
      (λ q in_all. ap (λ (t : Bool). (same_node p q || before ns p q) && t && (same_node q a || before ns q a)) (visible_same w a a.act k q in_all))))

-- so something is missing at the one as at the other
pub missing_same : (past : Past) (h : Hazard) (x y : Node) (b c : Byte) → AreAlike (nodes past) b c → resource_at b ≡ resource_at c → is_missing past h x y b ≡ is_missing past h x y c
missing_same past War x y b c alike same = refl
missing_same past Raw x y b c alike same = ap not (seen_same (λ d. is_cached past (resource_at d)) (nodes past) b c alike (ap (is_cached past) same) x y Read)
missing_same past Waw x y b c alike same = ap not (seen_same (λ d. is_cached past (resource_at d)) (nodes past) b c alike (ap (is_cached past) same) x y Write)

-- ---- texels of one subresource

covers_texels : (e : Element) (i a l x y p u v q : ℕ) → covers e (in_image i a l x y p) ≡ covers e (in_image i a l u v q)
covers_texels (element.Memory d) i a l x y p u v q = refl
covers_texels (element.Buffer e) i a l x y p u v q = refl
covers_texels (element.Image e) i a l x y p u v q = refl

flushes_texels : (t : Entry) (i a l x y p u v q : ℕ) → flushes (Hosts t) (in_image i a l x y p) ≡ flushes (Hosts t) (in_image i a l u v q)
flushes_texels (entry.Flush b o n) i a l x y p u v q = refl
flushes_texels _ i a l x y p u v q = refl

invalidates_texels : (t : Entry) (i a l x y p u v q : ℕ) → invalidates (Hosts t) (in_image i a l x y p) ≡ invalidates (Hosts t) (in_image i a l u v q)
invalidates_texels (entry.Invalidate b o n) i a l x y p u v q = refl
invalidates_texels _ i a l x y p u v q = refl

texels_alike : (t : Act) (i a l x y p u v q : ℕ) → IsAlike t (in_image i a l x y p) (in_image i a l u v q)
texels_alike (Depends r e) i a l x y p u v q = record { covered = covers_texels e i a l x y p u v q; flushed = refl; invalidated = refl }
texels_alike (Hosts t) i a l x y p u v q = record { covered = refl; flushed = flushes_texels t i a l x y p u v q; invalidated = invalidates_texels t i a l x y p u v q }
texels_alike (Waits s) i a l x y p u v q = record { covered = refl; flushed = refl; invalidated = refl }
texels_alike (Signals s) i a l x y p u v q = record { covered = refl; flushed = refl; invalidated = refl }
texels_alike (Runs s) i a l x y p u v q = record { covered = refl; flushed = refl; invalidated = refl }

pub all_texels_alike : (ns : List Node) (i a l x y p u v q : ℕ) → AreAlike ns (in_image i a l x y p) (in_image i a l u v q)
all_texels_alike ns i a l x y p u v q = λ n c. texels_alike n.act i a l x y p u v q

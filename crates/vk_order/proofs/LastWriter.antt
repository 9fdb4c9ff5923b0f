-- In a past without a hazard of writes, an access that sees the last write sees all.
use Rattle.std.proofs.Common.{◌≡◌, ◌<◌, ◌≤◌, List, [], ◌∷◌, ◌++◌, length, Bool, true, false, ◌&&◌, not, IsTrue, refl, ap, sym, ◌∙◌, subst}
use Rattle.std.specs.Prelude.{nat_lt, Contains}
use Rattle.std.specs.List.{list_any}
use Rattle.std.proofs.lemmas.Bool.{lt-ltb, and_from}
use Rattle.vk_model.specs.World.Bytes.{Byte, resource_at}
use Rattle.vk_model.specs.Trace.Objects.{is_cached}
use Rattle.vk_model.specs.Trace.Point.{Past, Point}
use Rattle.vk_model.specs.Sync.Node.{Node, Act, Hosts, Waits, Signals, Runs, Depends, nodes}
use Rattle.vk_model.specs.Sync.Edge.{is_host}
use Rattle.vk_model.specs.Sync.Seen.{Access, Read, Write, seen, available_by, visible_by}
use Rattle.vk_model.specs.Sync.Access.{writes, is_in, is_seen, precedes, waw, hazard}
use Rattle.vk_model.specs.Laws.{GrowthKeeps}
use Rattle.vk_model.proofs.Lists.Members.{contains-tail, member_passes, any_same}
use Rattle.vk_model.proofs.Lists.Truths.{clash, unless}
use Rattle.vk_model.proofs.Sync.Numbers.{numbered}
use Rattle.vk_model.proofs.Sync.NewNodes.{found_new}
use Rattle.vk_order.proofs.Visibility.{seen_through}

-- ---- whether the byte itself is cached is all that counts

module _ (c d : Byte → Bool) (ns : List Node) (b : Byte) (e : c b ≡ d b) where
  available_same : (w p : Node) (act : Act) → available_by c ns w act b p ≡ available_by d ns w act b p
  available_same w p (Runs x) = refl
  available_same w p (Depends r x) = refl
  available_same w p (Hosts x) = rw e refl
  available_same w p (Waits s) = refl
  available_same w p (Signals s) = refl

  visible_same : (w a q : Node) (act : Act) (k : Access) → visible_by c ns w a act k b q ≡ visible_by d ns w a act k b q
  visible_same w a q (Runs x) k = refl
  visible_same w a q (Depends r x) k = refl
  visible_same w a q (Hosts x) Read = rw e refl
  visible_same w a q (Hosts x) Write = refl
  visible_same w a q (Waits s) k = refl
  visible_same w a q (Signals s) k = refl

  pub seen_same : (w a : Node) (k : Access) → seen c ns w a k b ≡ seen d ns w a k b
  unfolding seen
  seen_same w a k =
      any_same _ _ ns (λ p h. rw (available_same w p w.act)
      (ap (λ (t : Bool). available_by d ns w w.act b p && t) (any_same _ _ ns (λ q g. rw (visible_same w a q a.act k) refl))))

-- ---- hazards

-- a write that no hazard hides is seen
written_seen : (past : Past) (p : Point) (x y : Node) (b : Byte) → hazard waw past p ≡ false → Contains (nodes (p ∷ past)) x → Contains (nodes (p ∷ past)) y → length (nodes past) ≤ y.number → IsTrue (precedes x y)
    → IsTrue (is_in b (writes (p ∷ past) x)) → Contains (writes (p ∷ past) y) b → IsTrue (is_seen (p ∷ past) x y Write b)
written_seen past p x y b none cx cy new first wx wy =
    unless (is_seen (p ∷ past) x y Write b) (λ n. clash
    (found_new (λ v. list_any (λ u. precedes u v && waw (p ∷ past) u v) (nodes (p ∷ past))) past p y cy new
    (member_passes (λ u. precedes u y && waw (p ∷ past) u y) (nodes (p ∷ past)) x cx (and_from (precedes x y) (waw (p ∷ past) x y) first
    (member_passes (λ d. is_in d (writes (p ∷ past) x) && not (is_seen (p ∷ past) x y Write d)) (writes (p ∷ past) y) b wy (and_from _ _ wx n)))))
    none)

-- ---- the law

pub last_writer : GrowthKeeps → (past newer : Past) (p : Point) (cached : Byte → Bool) (w v a : Node) (k : Access) (b : Byte) → hazard waw past p ≡ false → cached b ≡ is_cached (p ∷ past) (resource_at b)
    → Contains (nodes (p ∷ past)) w → Contains (nodes (p ∷ past)) v → length (nodes past) ≤ v.number → w.number < v.number → is_host v.act ≡ false
    → IsTrue (is_in b (writes (p ∷ past) w)) → Contains (writes (p ∷ past) v) b
    → IsTrue (seen cached (nodes (newer ++ p ∷ past)) v a k b) → IsTrue (seen cached (nodes (newer ++ p ∷ past)) w a k b)
last_writer keeps past newer p cached w v a k b none same cw cv new lt device ww wv h =
    let all = nodes (newer ++ p ∷ past) in
    let kept = keeps (p ∷ past) newer in
    let first : IsTrue (precedes w v) = and_from (nat_lt w.number v.number) (not (is_host w.act && is_host v.act)) (lt-ltb w.number v.number lt) (not_both (is_host w.act) (is_host v.act) device) in
    let here = written_seen past p w v b none cw cv new first ww wv in
    let there : IsTrue (seen (λ c. is_cached (p ∷ past) (resource_at c)) all w v Write b) = kept.visibilities (λ c. is_cached (p ∷ past) (resource_at c)) w v Write b cv ∙ here in
    let now : IsTrue (seen cached all w v Write b) = seen_same cached (λ c. is_cached (p ∷ past) (resource_at c)) all b same w v Write ∙ there in
    seen_through all cached (numbered (newer ++ p ∷ past)) w v a Write k b (stays w cw) (stays v cv) device now h
  where
    not_both : (x y : Bool) → y ≡ false → not (x && y) ≡ true
    not_both true y e = rw e refl
    not_both false y e = refl

    grown : (front ns : List Node) (n : Node) → Contains ns n → Contains (front ++ ns) n
    grown [] ns n c = c
    grown (m ∷ front) ns n c = contains-tail m (front ++ ns) n (grown front ns n c)

    stays : (n : Node) → Contains (nodes (p ∷ past)) n → Contains (nodes (newer ++ p ∷ past)) n
    stays n c =
        let kept = keeps (p ∷ past) newer in
        subst (λ (l : List Node). Contains l n) (sym kept.added.1) (grown kept.added.0 (nodes (p ∷ past)) n c)

-- The first flush of a byte since the host wrote it last, among nodes.
use Rattle.std.proofs.Common.{◌≡◌, ◌<◌, ◌≤◌, [], ◌∷◌, length, Bool, true, false, refl, ap, sym, ◌∙◌, arith, Option, Some, None, ⊎_elim}
use Rattle.std.specs.Prelude.{Contains, if◌then◌else◌}
use Rattle.std.specs.Option.{option_or}
use Rattle.std.proofs.lemmas.Bool.{false_from_ne_true}
use Rattle.vk_model.specs.declared.entry.Entry.{Entry}
use Rattle.vk_model.specs.World.Bytes.{Byte}
use Rattle.vk_model.specs.Trace.Point.{Past, Point, Action, Host, Wait, Run, Signal}
use Rattle.vk_model.specs.Sync.Node.{Node, Act, Hosts, Waits, Signals, Runs, Depends, nodes, acts}
use Rattle.vk_model.specs.Sync.Seen.{flushes}
use Rattle.vk_model.proofs.Lists.Truths.{clash}
use Rattle.vk_model.proofs.Sync.Growth.{growth}
use Rattle.vk_model.proofs.Sync.Numbers.{numbered, number_below}
use Rattle.vk_laws.proofs.Nodes.Actions.{host_action}
use Rattle.vk_laws.proofs.Nodes.Counts.{count_acts}
use Rattle.vk_laws.proofs.Nodes.Points.{in_acts}
use Rattle.vk_laws.proofs.Nodes.Prefixes.{has_more}
use Rattle.vk_touches.specs.declared.touches.Touch.TheVariants as touch
use Rattle.vk_touches.specs.Touched.{next_node, act_next, only_if, touches, touch_next, last_touch, flush_next, first_flush}
use Rattle.vk_touches.proofs.Touching.LastNodes.{touchers_own}
use Rattle.vk_touches.proofs.Touching.Spots.{last_low, touchers_alone}
use Rattle.vk_touches.proofs.Touching.Flushing.{flush_alone, host_there}

-- a new node that flushes a byte is its point's
flushes_new : (p : Point) (b : Byte) (a : Act) → Contains (acts p.action) a → flushes a b ≡ true → flushes (act_next p.action) b ≡ true
flushes_new p b (Hosts x) c f = ap (λ (d : Action). flushes (act_next d) b) (host_action p.action x c) ∙ f
flushes_new p b (Waits s) c f = absurd cc
flushes_new p b (Signals s) c f = absurd cc
flushes_new p b (Runs e) c f = absurd cc
flushes_new p b (Depends r e) c f = absurd cc

-- the first flush after a host write is the first of all later ones
pub record IsFirst (past : Past) (b : Byte) (v f : Node) : Type 0 where
  pub there : Contains (nodes past) f
  pub entry : Entry
  pub hosts : f.act ≡ Hosts entry
  pub flushing : flushes f.act b ≡ true
  pub later : v.number < f.number
  pub first : (g : Node) → Contains (nodes past) g → flushes g.act b ≡ true → v.number < g.number → f.number ≤ g.number

-- none of a past's nodes flushes a byte after another node
abbrev pub NoneAfter : Past → Byte → Node → Type 0
NoneAfter past b v = (g : Node) → Contains (nodes past) g → v.number < g.number → flushes g.act b ≡ false

-- what is said of the first flush, or that there is none
abbrev pub Says : Past → Byte → Node → Option Node → Type 0
Says past b v None = NoneAfter past b v
Says past b v (Some f) = IsFirst past b v f

module _ (past : Past) (p : Point) (b : Byte) (v : Node) where
  -- a new node's number
  new_high : (g : Node) → Contains (nodes (p ∷ past)) g → (Contains (nodes past) g → flushes g.act b ≡ false) → flushes (act_next p.action) b ≡ false → flushes g.act b ≡ false
  new_high g c old none = ⊎_elim old (λ new. false_from_ne_true (flushes g.act b) (λ f. clash (flushes_new p b g.act new.1 f) none)) (in_acts p (acts p.action) (nodes past) g c)

  -- the host wrote the byte at the point
  at_write : v.number ≡ length (nodes past) → (x : Entry) → p.action ≡ Host x → NoneAfter (p ∷ past) b v
  at_write is x host g c lt =
      let top = number_below (nodes (p ∷ past)) (numbered (p ∷ past)) g c in
      let one : length (acts p.action) ≡ 1 = ap (λ (d : Action). length (acts d)) host in
      let all = count_acts p (acts p.action) (nodes past) in
      absurd (omega (arith, is, lt, top, one, all))

  -- it wrote it earlier
  module _ (low : v.number < length (nodes past)) where
    none_next : NoneAfter past b v → flushes (act_next p.action) b ≡ false → NoneAfter (p ∷ past) b v
    none_next rest none g c lt = new_high g c (λ old. rest g old lt) none

    first_next : (f : Node) → IsFirst past b v f → IsFirst (p ∷ past) b v f
    first_next f is = record {
      there = has_more growth (p ∷ []) past f is.there;
      entry = is.entry;
      hosts = is.hosts;
      flushing = is.flushing;
      later = is.later;
      first = λ g c flush lt. ⊎_elim (λ old. is.first g old flush lt) (λ new. let top = number_below (nodes past) (numbered past) f is.there in let ge = new.0 in omega (arith, top, ge)) (in_acts p (acts p.action) (nodes past) g c);
    }

    first_new : NoneAfter past b v → flushes (act_next p.action) b ≡ true → IsFirst (p ∷ past) b v (next_node past p (act_next p.action))
    first_new rest flush =
        let x = flush_alone b p.action flush in
        record {
          there = host_there past p x.0 x.1;
          entry = x.0;
          hosts = ap act_next x.1;
          flushing = flush;
          later = low;
          first = λ g c f lt. ⊎_elim (λ old. clash f (rest g old lt)) (λ new. new.0) (in_acts p (acts p.action) (nodes past) g c);
        }

-- so it is for the last host write
pub flush_is : (past : Past) (b : Byte) (v : Node) → last_touch touch.HostWrite past b ≡ Some v → Says past b v (first_flush past b)
flush_is [] b v is = absurd cc
flush_is (p ∷ past) b v is = go (touches touch.HostWrite b past p p.action) refl is (flush_is past b v) where
  by_host : (d : Action) → touches touch.HostWrite b past p d ≡ true → (x : Entry) × (d ≡ Host x)
  by_host (Host x) e = (x, refl)
  by_host (Wait s) e = absurd cc
  by_host (Run c) e = absurd cc
  by_host (Signal s) e = absurd cc

  here : (low : v.number < length (nodes past)) → NoneAfter past b v → (t : Bool) → flushes (act_next p.action) b ≡ t → Says (p ∷ past) b v (only_if t (next_node past p (act_next p.action)))
  here low rest true e = first_new past p b v low rest e
  here low rest false e = none_next past p b v low rest e

  earlier : (low : v.number < length (nodes past)) → (o : Option Node) → Says past b v o → Says (p ∷ past) b v (option_or o (flush_next b past p p.action))
  earlier low None rest = here low rest (flushes (act_next p.action) b) refl
  earlier low (Some f) rest = first_next past p b v low f rest

  go : (t : Bool) → touches touch.HostWrite b past p p.action ≡ t → option_or (only_if t (next_node past p (act_next p.action))) (last_touch touch.HostWrite past b) ≡ Some v → (last_touch touch.HostWrite past b ≡ Some v → Says past b v (first_flush past b))
      → Says (p ∷ past) b v (if t then None else option_or (first_flush past b) (flush_next b past p p.action))
  go true e same rest =
      let x = by_host p.action e in
      let own : next_node past p (act_next p.action) ≡ v = cc in
      at_write past p b v (ap (λ (n : Node). n.number) (sym own)) x.0 x.1
  go false e same rest = earlier (last_low (touch_next touch.HostWrite b) (touchers_own touch.HostWrite b) (touchers_alone touch.HostWrite b) past v same) (first_flush past b) (rest same)

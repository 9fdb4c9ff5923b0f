-- With what memory catches up as an event happens.
use Rattle.std.proofs.Common.{◌≡◌, ◌≢◌, ℕ, List, Bool, true, false, ◌&&◌, ◌==◌, Option, Some, None, refl, ap, sym, subst, ◌∙◌, inl, inr}
use Rattle.std.specs.Prelude.{if◌then◌else◌, nat_lt, option_map}
use Rattle.std.proofs.lemmas.Bool.{cases_eq, ne_eqb}
use Rattle.vk_model.specs.declared.command.Length.{Length}
use Rattle.vk_model.specs.declared.command.SubresourceRange.{SubresourceRange}
use Rattle.vk_model.specs.declared.resource.ImageInfo.{ImageInfo}
use Rattle.vk_model.specs.Basics.{within}
use Rattle.vk_model.specs.World.Bytes.{Byte, in_buffer, in_image, resource_at}
use Rattle.vk_model.specs.Sync.Node.{Node, nodes}
use Rattle.vk_model.specs.Sync.Seen.{has_byte}
use Rattle.vk_cache_laws.specs.LateRuns.{LateByte, caught_by}
use Rattle.vk_events.specs.declared.event.Event.{Event}
use Rattle.vk_events.specs.declared.event.Range.TheVariants as reach
use Rattle.vk_events.specs.Happens.{is_on}
use Rattle.vk_image_transfer.specs.Held.{Form, BufferOf, ImageOf, place_of}
use Rattle.vk_resources.specs.declared.resources.Placed.{Placed}
use Rattle.vk_resources.specs.declared.resources.Spot.{Spot}
use Rattle.vk_resources.specs.Held.{Held, placed, shape_of, spot_of, place_in}
use Rattle.vk_resources.specs.Stretches.{place_at}
use Rattle.vk_lag.specs.declared.late.Late as kept
use Rattle.vk_lag.specs.declared.late.Writer.{Writer}
use Rattle.vk_lag.specs.declared.late.Due.{Due}
use Rattle.vk_lag.specs.declared.late.Due.TheVariants as due
use Rattle.vk_lag.specs.Lags.{Lags, late_at, late_in}
use Rattle.vk_availability.specs.AreLate.{late_byte}
use Rattle.vk_availability.specs.Happening.{Happens}
use Rattle.vk_availability.specs.Inner.CatchingUp.{caught_where, CatchesUp, CatchesUpOn}

-- ---- one byte

abbrev writer_of : Node → Writer
writer_of n = record { queue = n.point.queue; node = n.number }

caught : (n : Node) (t : Bool) (o : Option kept.Late) → caught_by n t (late_byte o) ≡ late_byte (caught_where t (due.Before (writer_of n)) o)
caught n true None = refl
caught n false None = refl
caught n false (Some l) = refl
caught n true (Some l) = go (nat_lt l.writer.node n.number) (l.writer.queue == n.point.queue)
  where
    go : (a b : Bool) → (if a && b then None else late_byte (Some l)) ≡ late_byte (if b && a then None else Some l)
    go true true = refl
    go true false = refl
    go false true = refl
    go false false = refl

-- ---- the event

pub happens : (s : Held) (e : Event) (old new : Lags) → e.makes_available ≡ true → CatchesUpOn s (is_on e.range) (due.Before (record { queue = e.queue; node = e.number })) old new → Happens s old new e
happens s e old new makes catches past n late is are c k place =
    ap (λ (t : Bool). caught_by n t (late c)) (is.available (λ b. false) (nodes past) c ∙ ap (λ (t : Bool). t && is_on e.range c) makes)
    ∙ ap (λ (o : Option LateByte). caught_by n (is_on e.range c) o) (are c k place) ∙ caught n (is_on e.range c) (late_at old (resource_at c) k)
    ∙ ap (λ (w : Writer). late_byte (caught_where (is_on e.range c) (due.Before w) (late_at old (resource_at c) k))) (sym same) ∙ ap late_byte (sym (catches.bytes c k place))
  where
    same : record { queue = e.queue; node = e.number } ≡ writer_of n
    same = ap (λ (q : ℕ). record { queue = q; node = e.number }) is.queue ∙ ap (λ (i : ℕ). record { queue = n.point.queue; node = i }) is.number

pub nothing_happens : (s : Held) (e : Event) (lags : Lags) → e.makes_available ≡ false → Happens s lags lags e
nothing_happens s e lags makes past n late is are c k place =
    ap (λ (t : Bool). caught_by n t (late c)) (is.available (λ b. false) (nodes past) c ∙ ap (λ (t : Bool). t && is_on e.range c) makes)
    ∙ ap (λ (o : Option LateByte). caught_by n false o) (are c k place) ∙ caught n false (late_at lags (resource_at c) k)

-- ---- the bytes of one resource

on_one : (s : Held) (id : ℕ) (test : Byte → Bool) (due : Due) (form : Form) (old new : Lags) → CatchesUp id form test due old new → ((c : Byte) (k : ℕ) → resource_at c ≡ id → place_at s c ≡ Some k → place_of form c ≡ Some k)
    → ((c : Byte) → resource_at c ≢ id → test c ≡ false) → CatchesUpOn s test due old new
on_one s id test due form old new catches lies away = record {
  bytes = λ c k place. elim (cases_eq (resource_at c) id) [
    | inl same ↦ subst (λ (n : ℕ). late_at new n k ≡ caught_where (test c) due (late_at old n k)) (sym same) (catches.bytes c k same (lies c k same place))
    | inr differs ↦
        ap (λ (l : List (Option kept.Late)). late_in l k) (catches.others (resource_at c) differs) ∙ ap (λ (t : Bool). caught_where t due (late_at old (resource_at c) k)) (sym (away c differs))
  ];
  room = catches.room;
}

-- a byte of a resource, whose shape and whose place are known
at_id : (s : Held) (id : ℕ) (shape : Option ImageInfo) (place : Option Placed) → shape_of s id ≡ shape → placed s id ≡ place → (c : Byte) (k : ℕ) → resource_at c ≡ id → place_at s c ≡ Some k → place_in shape place c ≡ Some k
at_id s id shape place shape_is place_is c k same at =
    ap (λ (m : Option ImageInfo). place_in m place c) (sym shape_is) ∙ ap (λ (p : Option Placed). place_in (shape_of s id) p c) (sym place_is) ∙ ap (λ (n : ℕ). place_in (shape_of s n) (placed s n) c) (sym same) ∙ at

-- no byte of another resource is in a range
not_of_buffer : (b o : ℕ) (n : Length) (c : Byte) → resource_at c ≢ b → is_on (reach.Buffer b o n) c ≡ false
not_of_buffer b o n (in_buffer d k) differs = ap (λ (t : Bool). t && has_byte o n k) (ne_eqb b d (λ e. differs (sym e)))
not_of_buffer b o n (in_image i l a x y p) differs = refl

not_of_image : (i : ℕ) (r : SubresourceRange) (c : Byte) → resource_at c ≢ i → is_on (reach.Image i r) c ≡ false
not_of_image i r (in_buffer d k) differs = refl
not_of_image i r (in_image j l a x y p) differs = ap (λ (t : Bool). t && within r.first_level r.levels l && within r.first_layer r.layers a) (ne_eqb i j (λ e. differs (sym e)))

-- where a buffer lies
pub on_buffer : (s : Held) (b o : ℕ) (n : Length) (due : Due) (spot : Spot) → shape_of s b ≡ None → Some spot ≡ option_map spot_of (placed s b) → (old new : Lags) → CatchesUp b (BufferOf spot.size) (is_on (reach.Buffer b o n)) due old new
    → CatchesUpOn s (is_on (reach.Buffer b o n)) due old new
on_buffer s b o n due spot shape there old new catches = go (placed s b) refl there
  where
    go : (p : Option Placed) → placed s b ≡ p → Some spot ≡ option_map spot_of p → CatchesUpOn s (is_on (reach.Buffer b o n)) due old new
    go None here e = absurd cc
    go (Some p) here e =
        let size : p.size ≡ spot.size = let same : spot ≡ spot_of p = cc in ap (λ (z : Spot). z.size) (sym same) in
        on_one s b (is_on (reach.Buffer b o n)) due (BufferOf spot.size) old new catches
        (λ c k same at. subst (λ (z : ℕ). place_of (BufferOf z) c ≡ Some k) size (at_id s b None (Some p) shape here c k same at))
        (not_of_buffer b o n)

-- and where an image does
pub on_image : (s : Held) (i : ℕ) (r : SubresourceRange) (due : Due) (m : ImageInfo) → shape_of s i ≡ Some m → (old new : Lags) → CatchesUp i (ImageOf m) (is_on (reach.Image i r)) due old new → CatchesUpOn s (is_on (reach.Image i r)) due old new
on_image s i r due m shape old new catches =
    on_one s i (is_on (reach.Image i r)) due (ImageOf m) old new catches (λ c k same at. its (placed s i) c k (at_id s i (Some m) (placed s i) shape refl c k same at)) (not_of_image i r)
  where
    its : (p : Option Placed) (c : Byte) (k : ℕ) → place_in (Some m) p c ≡ Some k → place_of (ImageOf m) c ≡ Some k
    its None c k e = absurd cc
    its (Some p) c k e = e

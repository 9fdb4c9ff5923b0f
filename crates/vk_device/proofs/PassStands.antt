-- What is held stands where a defragmentation begins or ends, and where a pass begins.
use Rattle.std.proofs.Common.{◌≡◌, ℕ, [], ◌∷◌, IsTrue, refl, sym, ◌∙◌, subst, Option, Some, None, inl, inr}
use Rattle.std.specs.Prelude.{option_and_then}
use Rattle.std.proofs.lemmas.Bool.{cases_eq, eq-eqb, ne_eqb}
use Rattle.vk_model.specs.declared.entry.Entry.{Entry}
use Rattle.vk_model.specs.declared.entry.Entry.TheVariants as entry
use Rattle.vk_model.specs.declared.resource.Place.{Place}
use Rattle.vk_model.specs.declared.resource.Place.TheVariants as place
use Rattle.vk_model.specs.Basics.{holds}
use Rattle.vk_model.specs.Trace.Point.{Past}
use Rattle.vk_model.specs.Trace.Objects.{live, image_in, memory_in, pool_in, resource_in}
use Rattle.vk_model.specs.Trace.Order.{host}
use Rattle.vk_model.specs.Rules.Ids.{is_defrag, is_memory}
use Rattle.vk_model.proofs.Lists.Members.{contains-head}
use Rattle.vk_resources.specs.declared.resources.Placed.{Placed}
use Rattle.vk_resources.specs.Held.{Held}
use Rattle.vk_resources.specs.Fits.{IsUnused}
use Rattle.vk_resources.specs.Matches.{Matches, Stands, LiesAt, has_memory, in_pool, size_made, type_made}
use Rattle.vk_resources.proofs.Matching.{matches_same, stands_on}
use Rattle.vk_device.specs.Inner.Clean.{IsClean}
use Rattle.vk_device.proofs.Clean.{fits_clean}
use Rattle.vk_device.proofs.Unbroken.{breaks_none, names_live}

-- ---- objects that are the same to resources

-- resources have as much to do with one of two objects as with the other
record Alike (o u : Option Entry) : Type 0 where
  sizes : option_and_then size_made u ≡ option_and_then size_made o
  shapes : option_and_then image_in u ≡ option_and_then image_in o
  resources : option_and_then resource_in u ≡ option_and_then resource_in o
  makes : holds u is_memory ≡ holds o is_memory
  owns : holds u has_memory ≡ holds o has_memory
  memories : option_and_then memory_in u ≡ option_and_then memory_in o
  types : option_and_then type_made u ≡ option_and_then type_made o
  pools : option_and_then pool_in u ≡ option_and_then pool_in o
  pooled : holds u in_pool ≡ holds o in_pool

alike_same : (o u : Option Entry) → u ≡ o → Alike o u
alike_same o u is = subst (λ (v : Option Entry). Alike o v) (sym is) (record { sizes = refl; shapes = refl; resources = refl; makes = refl; owns = refl; memories = refl; types = refl; pools = refl; pooled = refl })

-- they have nothing to do with a defragmentation
alike_begun : (i q n m : ℕ) → Alike None (Some (entry.Defrag i q n m))
alike_begun i q n m = record { sizes = refl; shapes = refl; resources = refl; makes = refl; owns = refl; memories = refl; types = refl; pools = refl; pooled = refl }

alike_ended : (o : Option Entry) → IsTrue (holds o is_defrag) → Alike o None
alike_ended None h = absurd cc
alike_ended (Some y) h = go y h
  where
    go : (y : Entry) → IsTrue (is_defrag y) → Alike (Some y) None
    go (entry.Defrag i q n m) h = record { sizes = refl; shapes = refl; resources = refl; makes = refl; owns = refl; memories = refl; types = refl; pools = refl; pooled = refl }
    go _ h = absurd cc

module _ (alive alive' : ℕ → Option Entry) (s : Held) (alike : (i : ℕ) → Alike (alive i) (alive' i)) where
  lies_alike : (b : ℕ) (q : Place) (p : Placed) → LiesAt alive s b q p → LiesAt alive' s b q p
  lies_alike b (place.Dedicated t) p lies = lies
  lies_alike b (place.Memory m o) p lies = ((alike m).makes ∙ lies.0, lies.1, lies.2)
  lies_alike b (place.Pool q) p lies = lies
  lies_alike b (place.PoolUpper q) p lies = lies

  matches_alike : Matches alive s → Matches alive' s
  matches_alike m = record {
    sizes = λ b. m.sizes b ∙ sym (alike b).sizes;
    shapes = λ b. m.shapes b ∙ sym (alike b).shapes;
    places = λ b p r here is. lies_alike b r.place p (m.places b p r here (sym (alike b).resources ∙ is));
    owned = λ i. m.owned i ∙ sym (alike i).owns;
    memories = λ k number x is has. m.memories k number x (sym (alike k).memories ∙ is) has;
    types = λ i number t is has. m.types i number t (sym (alike i).types ∙ is) has;
    pools = λ i. m.pools i ∙ sym (alike i).pools;
    pooled = λ i a has. (alike i).pooled ∙ m.pooled i a has;
    whole = m.whole;
  }

-- ---- what is held

-- where a pass begins the same objects are live
pub pass_stands : (e d : ℕ) (past : Past) (s : Held) → Stands past s → Stands (host e (entry.Pass d) ∷ past) s
pass_stands e d past s m = stands_on past e (entry.Pass d) s s m (matches_same (live past) (live (host e (entry.Pass d) ∷ past)) s (λ i. refl) m.live)

pub defrag_stands : (e i q n k : ℕ) (past : Past) (s : Held) → IsClean (host e (entry.Defrag i q n k) ∷ past) → Stands past s → Stands (host e (entry.Defrag i q n k) ∷ past) s
defrag_stands e i q n k past s clean m = stands_on past e x s s m (matches_alike (live past) (live (host e x ∷ past)) s each m.live)
  where
    x : Entry
    x = entry.Defrag i q n k

    unused : IsUnused past i
    unused = (fits_clean (host e x ∷ past) clean).0

    none : live past i ≡ None
    none = rw (unused.unended, unused.unmade) refl

    now : live (host e x ∷ past) i ≡ Some x
    now = rw (unused.unended, eq-eqb i i refl) refl

    each : (j : ℕ) → Alike (live past j) (live (host e x ∷ past) j)
    each j = elim (cases_eq j i) [
      | inl is ↦ subst (λ (l : ℕ). Alike (live past l) (live (host e x ∷ past) l)) (sym is)
          (subst (λ (o : Option Entry). Alike o (live (host e x ∷ past) i)) (sym none) (subst (λ (o : Option Entry). Alike None o) (sym now) (alike_begun i q n k)))
      | inr other ↦ alike_same (live past j) (live (host e x ∷ past) j) (rw (ne_eqb j i other) refl)
    ]

pub undefrag_stands : (e d : ℕ) (past : Past) (s : Held) → IsClean (host e (entry.EndDefrag d) ∷ past) → Stands past s → Stands (host e (entry.EndDefrag d) ∷ past) s
undefrag_stands e d past s clean m = stands_on past e x s s m (matches_alike (live past) (live (host e x ∷ past)) s each m.live)
  where
    x : Entry
    x = entry.EndDefrag d

    was : IsTrue (holds (live past d) is_defrag)
    was = names_live past (host e x) (breaks_none past (host e x) clean) x d is_defrag refl (contains-head (d, is_defrag) [])

    now : live (host e x ∷ past) d ≡ None
    now = rw (eq-eqb d d refl) refl

    each : (j : ℕ) → Alike (live past j) (live (host e x ∷ past) j)
    each j = elim (cases_eq j d) [
      | inl is ↦ subst (λ (l : ℕ). Alike (live past l) (live (host e x ∷ past) l)) (sym is) (subst (λ (o : Option Entry). Alike (live past d) o) (sym now) (alike_ended (live past d) was))
      | inr other ↦ alike_same (live past j) (live (host e x ∷ past) j) (rw (ne_eqb j d other) refl)
    ]

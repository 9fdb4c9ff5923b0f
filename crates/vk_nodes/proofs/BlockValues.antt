-- The machine values of a block of memory from an allocator and of a lease on it: what is owned of their fields determines them, and is made of nothing.
use Rattle.std.proofs.Common.{◌≡◌, ℕ, ◌^◌, ◌<◌, List, [], ◌∷◌, ◌++◌, refl, ◌∙◌, w64}
use seplogic.Ra.Ura.{Ura}
use mir.Val.{Val, vint, vstruct, vcons, vnil, of_list}
use base.Logic.{ent, emp}
use base.Fml.{Fml}
use types.Logic.{Logic, sem}
use denote.RattleType.{RattleType}
use denote.Builtin.{usize}
use denote.RawPtr.{Ptr, RawPtr, ptr_val}
use denote.Shadow.{shadow, makes_shadow}
use denote.Struct.Struct.{Struct}

-- a struct of these fields: what they own doesn't depend on its name
abbrev pub fields_of : List RattleType → RattleType
fields_of Rs = Struct (record { name = []; args = []; types = []; fields = Rs })

abbrev pub block_val : Ptr → ℕ → Val
block_val p n = vstruct (vcons (ptr_val p) (vcons (vint w64 n) vnil))

abbrev pub block_own : Ptr → ℕ → List Val → Fml
block_own p n = (fields_of (RawPtr ∷ usize ∷ [])).own_val (p, (n, tt))

pub block_is : (p : Ptr) (n : ℕ) (vs : List Val) → shadow (block_own p n vs) → (vs ≡ block_val p n ∷ []) × (n < 2 ^ 64)
block_is p n vs s = (s.1.0 ∙ (λ i. vstruct (of_list (s.1.1.0 i ++ (s.1.1.1.0.0 i ++ []))) ∷ []), s.1.1.1.0.1)

pub block_made : {M : Type 1} {𝓤 : Ura M} (𝓛 : Logic 𝓤) (p : Ptr) (n : ℕ) → n < 2 ^ 64 → ent 𝓤 (emp 𝓤) (sem 𝓛 (block_own p n (block_val p n ∷ [])))
block_made 𝓛 p n fits = makes_shadow 𝓛 (block_own p n (block_val p n ∷ [])) (λ _. (tt, (tt, ((tt, tt), tt)))) ((ptr_val p ∷ [], (vint w64 n ∷ [], tt)), (refl, (refl, ((refl, fits), tt))))

abbrev pub lease_val : Val
lease_val = vstruct (vcons (vstruct vnil) vnil)

abbrev pub lease_own : List Val → Fml
lease_own = (fields_of (fields_of [] ∷ [])).own_val (tt, tt)

pub lease_is : (vs : List Val) → shadow (lease_own vs) → vs ≡ lease_val ∷ []
lease_is vs s = s.1.0 ∙ (λ i. vstruct (of_list (s.1.1.0.1.0 i ++ [])) ∷ [])

pub lease_made : {M : Type 1} {𝓤 : Ura M} (𝓛 : Logic 𝓤) → ent 𝓤 (emp 𝓤) (sem 𝓛 (lease_own (lease_val ∷ [])))
lease_made 𝓛 = makes_shadow 𝓛 (lease_own (lease_val ∷ [])) (λ _. (tt, ((λ _. (tt, tt)), tt))) ((vstruct vnil ∷ [], tt), (refl, ((tt, (refl, tt)), tt)))

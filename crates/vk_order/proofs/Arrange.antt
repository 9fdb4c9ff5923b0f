-- Truth values put in another order.
use Rattle.std.proofs.Common.{◌≡◌, ℕ, Bool, false, ◌&&◌, ◌||◌, not, Option, Some, None, refl, arith}
use Rattle.vk_model.specs.Basics.{holds}
use Rattle.vk_model.specs.Sync.Edge.{meet, scopes_meet}
use Rattle.vk_order.specs.Lines.{has_transfer, has_host}
use Rattle.std.proofs.Math.Bool.{and-false}

pub holds-false : {A : Type 0} (o : Option A) → holds o (λ x. false) ≡ false
holds-false None = refl
holds-false (Some x) = refl

-- scopes meet in TRANSFER or at the host
pub scopes : (a b : Option ℕ) → scopes_meet a b ≡ (holds a has_transfer && holds b has_transfer || holds a has_host && holds b has_host)
unfolding meet
scopes None b = refl
scopes (Some s) (Some t) = refl
scopes (Some s) None = simp and-false

pub stages_apart : (q s t f h g : Bool) → (q && not s && (t && f || h && g)) ≡ (f && ((q && t) && not s) || g && ((q && h) && not s))
stages_apart q s t f h g = grind arith

pub stages : (q t f h g : Bool) → (q && (t && f || h && g)) ≡ (f && (q && t) || g && (q && h))
stages q t f h g = grind arith

pub spread : (q a b c : Bool) → (q && (a || b && c)) ≡ (q && a || q && b && c)
spread q a b c = grind arith

pub turned : (q a b : Bool) → (q && (a && b)) ≡ (b && (q && a))
turned q a b = grind arith

pub for_element : (a b c d e f x t h w : Bool) → a ≡ x → b ≡ (t || h) → c ≡ false → d ≡ w → f ≡ false → (a || b || c || d || e || f) ≡ (x || (w || (t || (h || e))))
for_element a b c d e f x t h w p q r s u = grind arith

pub for_signal : (a b c d e f x t h y z w : Bool) → a ≡ x → b ≡ (t || h) → c ≡ (y || z) → d ≡ w → e ≡ false → f ≡ false → (a || b || c || d || e || f) ≡ (x || (y || (z || (t || (h || w)))))
for_signal a b c d e f x t h y z w p q r s u v = grind arith

pub for_two : (a b c d e f x y : Bool) → a ≡ x → b ≡ false → c ≡ false → d ≡ false → e ≡ false → f ≡ y → (a || b || c || d || e || f) ≡ (x || y)
for_two a b c d e f x y p q r s u v = grind arith

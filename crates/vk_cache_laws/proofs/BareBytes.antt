-- Bytes of which no cache holds anything, and bytes one by one.
use Rattle.std.proofs.Common.{◌≡◌, ℕ, Bool, true, false, IsTrue, Option, None, refl, sym, subst}
use Rattle.std.specs.Prelude.{if◌then◌else◌}
use Rattle.vk_model.specs.Trace.Point.{Past}
use Rattle.vk_model.specs.World.Bytes.{Byte}
use Rattle.vk_model.specs.Run.Caches.{Held, Cell}
use Rattle.vk_model.specs.Run.CachedRuns.{Cells}
use Rattle.vk_laws.specs.DirectRuns.{HostMemory, is_made}
use Rattle.vk_cache_laws.specs.InPlace.{Behind, Lag, IsTold, AreTold}
use Rattle.vk_cache_laws.proofs.Told.{alike_same}

-- a byte that no cache holds
abbrev pub bare : ℕ → Cell
bare value = record { region = value; held = λ a. None }

pub bare_told : (value : ℕ) → IsTold value None None (bare value)
bare_told value = record {
  region = refl;
  dirty = λ q v no. absurd cc;
  held = λ b no. absurd cc;
  alike = alike_same None;
}

-- other bytes where no resource was made
module _ (past : Past) (n : HostMemory) (cells : Cells) where
  abbrev pub made_or : Byte → Bool → Cell
  made_or c there = if there then cells c else bare (n.region c)

  abbrev pub made_cells : Cells
  made_cells c = made_or c (is_made past c)

  pub made_same : (c : Byte) → IsTrue (is_made past c) → cells c ≡ made_cells c
  made_same c h = go (is_made past c) h
    where
      go : (b : Bool) → IsTrue b → cells c ≡ made_or c b
      go true h = refl
      go false h = absurd cc

  pub bare_held : (c : Byte) (a : ℕ) → is_made past c ≡ false → (made_cells c).held a ≡ None
  bare_held c a none = go (is_made past c) none
    where
      go : (b : Bool) → b ≡ false → (made_or c b).held a ≡ None
      go true e = absurd cc
      go false e = refl

  pub made_told : (m : HostMemory) (lag : Lag) → AreTold m lag cells → ((c : Byte) → is_made past c ≡ false → lag c ≡ None)
      → ((c : Byte) → IsTrue (is_made past c) → (m.region c ≡ n.region c) × (m.host c ≡ n.host c)) → ((c : Byte) → is_made past c ≡ false → n.host c ≡ None) → AreTold n lag made_cells
  made_told m lag told new same none c = go (is_made past c) refl
    where
      go : (b : Bool) → is_made past c ≡ b → IsTold (n.region c) (n.host c) (lag c) (made_or c b)
      go true e = (let s = same c e in subst (λ (h : Option Held). IsTold (n.region c) h (lag c) (cells c)) s.1 (subst (λ (v : ℕ). IsTold v (m.host c) (lag c) (cells c)) s.0 (told c)))
      go false e = subst (λ (h : Option Held). IsTold (n.region c) h (lag c) (bare (n.region c))) (sym (none c e)) (subst (λ (b : Option Behind). IsTold (n.region c) None b (bare (n.region c))) (sym (new c e)) (bare_told (n.region c)))

-- bytes that are the same
pub told_same : (m n : HostMemory) (lag other : Lag) (cells : Cells) → ((c : Byte) → (m.region c ≡ n.region c) × (m.host c ≡ n.host c)) → ((c : Byte) → lag c ≡ other c) → AreTold m lag cells → AreTold n other cells
told_same m n lag other cells same lags told c =
    let s = same c in
    subst (λ (b : Option Behind). IsTold (n.region c) (n.host c) b (cells c)) (lags c)
    (subst (λ (h : Option Held). IsTold (n.region c) h (lag c) (cells c)) s.1 (subst (λ (v : ℕ). IsTold v (m.host c) (lag c) (cells c)) s.0 (told c)))

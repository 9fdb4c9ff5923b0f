-- A command fits as long as resources stay.
use Rattle.std.proofs.Common.{◌≡◌, ◌≤◌, arith, ℕ, List, ◌∷◌, Bool, true, false, ◌==◌, refl, sym, subst, cond, Option, Some, None}
use Rattle.std.proofs.lemmas.Bool.{eqb-true}
use Rattle.std.proofs.lemmas.List.Elements.{All-weaker}
use Rattle.std.specs.Prelude.{option_and_then}
use Rattle.vk_model.specs.declared.command.BufferImageCopy.{BufferImageCopy}
use Rattle.vk_model.specs.declared.command.ImageCopy.{ImageCopy}
use Rattle.vk_model.specs.declared.command.Cmd.{Cmd}
use Rattle.vk_model.specs.declared.command.Cmd.TheVariants as cmd
use Rattle.vk_model.specs.declared.command.Length.{Length}
use Rattle.vk_model.specs.declared.entry.Entry.{Entry}
use Rattle.vk_model.specs.declared.entry.Entry.TheVariants as entry
use Rattle.vk_model.specs.declared.resource.BufferInfo.{BufferInfo}
use Rattle.vk_model.specs.declared.resource.ImageInfo.{ImageInfo}
use Rattle.vk_model.specs.Trace.Image.{texel}
use Rattle.vk_model.specs.Trace.Point.{Past, Point, Action, Host, Wait, Run, Signal}
use Rattle.vk_model.specs.Trace.Objects.{made, buffer, buffer_in, image, image_in}
use Rattle.vk_model.specs.World.Areas.{region_box}
use Rattle.vk_model.specs.World.ByteWrites.{buffer_size}
use Rattle.vk_image_transfer.specs.Rows.{BoxFits, RegionFits}
use Rattle.vk_transfer.specs.Copies.{FitsBuffers}
use Rattle.vk_resources.specs.Fits.{FitsFill, FitsClear, FitsRegions, FitsImages, FitsCommand}
use Rattle.vk_device.specs.Inner.Fits.{FitsAction, FitsHost}

-- an object that was made stays when a point comes
module _ {A : Type 0} (kind : Entry → Option A) (past : Past) (b : ℕ) (info : A) (is : option_and_then kind (made past b) ≡ Some info) where
  other_id : (i : ℕ) → made past i ≡ None → (x : Option Entry) (t : Bool) → (b == i) ≡ t → option_and_then kind (cond t x (made past b)) ≡ Some info
  other_id i none x true e =
      let same = eqb-true b i e in
      let never : option_and_then kind None ≡ Some info = subst (λ (y : Option Entry). option_and_then kind y ≡ Some info) none (subst (λ (k : ℕ). option_and_then kind (made past k) ≡ Some info) same is) in
      absurd cc
  other_id i none x false e = is

  stays_host : (e k p q : ℕ) (x : Entry) → FitsHost past x → option_and_then kind (made (record { entry = e; batch = k; place = p; queue = q; action = Host x } ∷ past) b) ≡ Some info
  stays_host e k p q (entry.Buffer i y) fit = other_id i fit.unused.unmade (Some (entry.Buffer i y)) (b == i) refl
  stays_host e k p q (entry.Image i y) fit = other_id i fit.unused.unmade (Some (entry.Image i y)) (b == i) refl
  stays_host e k p q (entry.Memory i y) fit = other_id i fit.0.unmade (Some (entry.Memory i y)) (b == i) refl
  stays_host e k p q (entry.Semaphore i v) fit = other_id i fit.unmade (Some (entry.Semaphore i v)) (b == i) refl
  stays_host e k p q (entry.Event i) fit = other_id i fit.unmade (Some (entry.Event i)) (b == i) refl
  stays_host e k p q (entry.Pool i y) fit = other_id i fit.0.unmade (Some (entry.Pool i y)) (b == i) refl
  stays_host e k p q (entry.DropPool r) fit = is
  stays_host e k p q (entry.Free m) fit = is
  stays_host e k p q (entry.Destroy r) fit = is
  stays_host e k p q (entry.Unmap r) fit = is
  stays_host e k p q (entry.Write r o bytes) fit = is
  stays_host e k p q (entry.Map r) fit = is
  stays_host e k p q (entry.Read r o n) fit = is
  stays_host e k p q (entry.Signal s v) fit = is
  stays_host e k p q (entry.Wait ws) fit = is
  stays_host e k p q (entry.Submit r bs) fit = is
  stays_host e k p q (entry.Flush r o n) fit = is
  stays_host e k p q (entry.Invalidate r o n) fit = is
  stays_host e k p q (entry.Defrag i r m n) fit = other_id i fit.unmade (Some (entry.Defrag i r m n)) (b == i) refl
  stays_host e k p q (entry.Pass d) fit = is
  stays_host e k p q (entry.EndPass d kept lost) fit = is
  stays_host e k p q (entry.EndDefrag d) fit = is

  stays : (e k p q : ℕ) (a : Action) → FitsAction past a → option_and_then kind (made (record { entry = e; batch = k; place = p; queue = q; action = a } ∷ past) b) ≡ Some info
  stays e k p q (Host x) fit = stays_host e k p q x fit
  stays e k p q (Wait s) fit = is
  stays e k p q (Run c) fit = is
  stays e k p q (Signal s) fit = is

later_fill : (past : Past) (p : Point) (b o : ℕ) (n : Length) → FitsAction past p.action → FitsFill (buffer past b) o n → FitsFill (buffer (p ∷ past) b) o n
later_fill past p b o n fit fits = go (buffer past b) refl fits
  where
    go : (x : Option BufferInfo) → buffer past b ≡ x → FitsFill x o n → FitsFill (buffer (p ∷ past) b) o n
    go None e f = absurd f
    go (Some info) e f = subst (λ (y : Option BufferInfo). FitsFill y o n) (sym (stays buffer_in past b info e p.entry p.batch p.place p.queue p.action fit)) f

-- its size doesn't get less
later_size : (past : Past) (p : Point) (b : ℕ) → FitsAction past p.action → buffer_size past b ≤ buffer_size (p ∷ past) b
later_size past p b fit = go (buffer past b) refl
  where
    go : (x : Option BufferInfo) → buffer past b ≡ x → buffer_size past b ≤ buffer_size (p ∷ past) b
    go None e = rw (buffer_size, e) (omega arith)
    go (Some info) e = rw (buffer_size, e, stays buffer_in past b info e p.entry p.batch p.place p.queue p.action fit) (omega arith)

-- what asks for an image that was made asks for the same one
later_image : (past : Past) (p : Point) (i : ℕ) (P : Option ImageInfo → Type 0) → FitsAction past p.action → (P None → ⊥) → P (image past i) → P (image (p ∷ past) i)
later_image past p i P fit never fits = go (image past i) refl fits
  where
    go : (x : Option ImageInfo) → image past i ≡ x → P x → P (image (p ∷ past) i)
    go None e f = absurd (never f)
    go (Some info) e f = subst P (sym (stays image_in past i info e p.entry p.batch p.place p.queue p.action fit)) f

-- regions fit in a larger buffer too
larger : (o : Option ImageInfo) (m n : ℕ) (gs : List BufferImageCopy) → m ≤ n → FitsRegions o m gs → FitsRegions o n gs
larger None m n gs le fits = fits
larger (Some i) m n gs le fits =
    All-weaker (λ g. BoxFits i (region_box g) × RegionFits g (texel i.format) m) (λ g. BoxFits i (region_box g) × RegionFits g (texel i.format) n)
    (λ g f. (f.0, λ z y x q lz ly lx lq. let below = f.1 z y x q lz ly lx lq in omega (arith, below, le))) gs fits

later_regions : (past : Past) (p : Point) (b i : ℕ) (gs : List BufferImageCopy) → FitsAction past p.action → FitsRegions (image past i) (buffer_size past b) gs → FitsRegions (image (p ∷ past) i) (buffer_size (p ∷ past) b) gs
later_regions past p b i gs fit fits =
    larger (image (p ∷ past) i) (buffer_size past b) (buffer_size (p ∷ past) b) gs (later_size past p b fit) (later_image past p i (λ o. FitsRegions o (buffer_size past b) gs) fit (λ f. f) fits)

none_written : (s d : ℕ) (o : Option ImageInfo) (gs : List ImageCopy) → FitsImages s d o None gs → ⊥
none_written s d None gs f = f
none_written s d (Some m) gs f = f

pub later_fits : (past : Past) (p : Point) (c : Cmd) → FitsAction past p.action → FitsCommand past c → FitsCommand (p ∷ past) c
later_fits past p (cmd.Fill b o n w) fit fits = later_fill past p b o n fit fits
later_fits past p (cmd.Update b o bytes) fit fits = let grows = later_size past p b fit in omega (arith, grows, fits)
later_fits past p (cmd.Copy s d gs) fit fits =
    All-weaker (λ g. FitsBuffers g (buffer_size past s) (buffer_size past d)) (λ g. FitsBuffers g (buffer_size (p ∷ past) s) (buffer_size (p ∷ past) d)) (λ g f.
    let from = later_size past p s fit in
    let to = later_size past p d fit in
    let first = f.0 in
    let second = f.1 in
    (omega (arith, from, first), omega (arith, to, second))) gs fits
later_fits past p (cmd.Barrier es) fit fits = fits
later_fits past p (cmd.Set v ms) fit fits = fits
later_fits past p (cmd.Await v ms) fit fits = fits
later_fits past p (cmd.Clear i l color rs) fit fits = later_image past p i (λ o. FitsClear o rs) fit (λ f. f) fits
later_fits past p (cmd.CopyIn b i l gs) fit fits = later_regions past p b i gs fit fits
later_fits past p (cmd.CopyOut i l b gs) fit fits = later_regions past p b i gs fit fits
later_fits past p (cmd.CopyImage s l d t gs) fit fits =
    later_image past p d (λ o. FitsImages s d (image (p ∷ past) s) o gs) fit (none_written s d (image (p ∷ past) s) gs)
    (later_image past p s (λ o. FitsImages s d o (image past d) gs) fit (λ f. f) fits)

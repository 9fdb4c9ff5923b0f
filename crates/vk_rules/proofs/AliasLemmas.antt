-- Resources that are bound to memory objects.
use Rattle.std.proofs.Common.{◌≡◌, ℕ, Option, Some, None, ap}
use Rattle.std.specs.Prelude.{IfSome}
use Rattle.vk_model.specs.declared.entry.Entry.{Entry}
use Rattle.vk_model.specs.declared.entry.Entry.TheVariants as entry
use Rattle.vk_model.specs.declared.resource.BufferInfo.{BufferInfo}
use Rattle.vk_model.specs.declared.resource.ImageInfo.{ImageInfo}
use Rattle.vk_model.specs.declared.resource.Kind.{Kind}
use Rattle.vk_model.specs.declared.resource.Kind.TheVariants as kind
use Rattle.vk_model.specs.declared.resource.Place.{Place}
use Rattle.vk_model.specs.Trace.Objects.{resource_in, of_buffer, of_image, bound_at}
use Rattle.vk_rules.specs.declared.aliases.Bound.{Bound}
use Rattle.vk_rules.specs.Inner.Binding.{IsBound}

abbrev Lies : Place → ℕ → Kind → Bound → Type 0
Lies q n k r = (bound_at q ≡ Some (r.memory, r.offset)) × (r.size ≡ n) × (r.kind ≡ k)

pub bound_buffer : (x : Entry) (i : ℕ) (b : BufferInfo) (o : Option Bound) → x ≡ entry.Buffer i b → IfSome o (Lies b.place (of_buffer b).size kind.Linear) → IfSome o (IsBound x)
bound_buffer x i b None is reported = tt
bound_buffer x i b (Some r) is reported = record { resource = of_buffer b; made = ap resource_in is; place = reported.0; size = reported.1; kind = reported.2 }

pub bound_image : (x : Entry) (i : ℕ) (m : ImageInfo) (o : Option Bound) → x ≡ entry.Image i m → IfSome o (Lies m.place (of_image m).size m.tiling) → IfSome o (IsBound x)
bound_image x i m None is reported = tt
bound_image x i m (Some r) is reported = record { resource = of_image m; made = ap resource_in is; place = reported.0; size = reported.1; kind = reported.2 }

-- The rows that pieces write: they are there, and lie in what is written.
use Rattle.std.proofs.Common.{ℕ, zero, suc, ◌+◌, ◌*◌, ◌/◌, ◌%◌, ◌<◌, arith}
use Rattle.std.proofs.lemmas.Nat.{div_below, mod_below}
use Rattle.vk_model.specs.declared.command.SubresourceRange.{SubresourceRange}
use Rattle.vk_model.specs.declared.resource.ImageInfo.{ImageInfo}
use Rattle.vk_model.specs.Trace.Image.{level_width, level_height}
use Rattle.vk_model.specs.World.Areas.{Box}
use Rattle.vk_image_transfer.specs.Rows.{BoxFits, level_box}
use Rattle.vk_image_transfer.proofs.ImageRows.{RowThere}

-- a number below a product has a row and a layer
some_of : (number layers height : ℕ) → number < layers * height → 0 < height
some_of number layers zero lt = absurd (omega arith)
some_of number layers (suc h) lt = omega arith

pub layer_below : (number layers height : ℕ) → number < layers * height → number / height < layers
layer_below number layers height lt = div_below number height layers (some_of number layers height lt) lt

pub row_below : (number layers height : ℕ) → number < layers * height → number % height < height
row_below number layers height lt = mod_below number height (some_of number layers height lt)

-- the row of a number is there, of a box that lies in an image
pub box_row : (m : ImageInfo) (k : Box) (number : ℕ) → BoxFits m k → number < k.layers * k.height → RowThere m k.level (k.first_layer + number / k.height) k.x (k.y + number % k.height) k.width
box_row m k number fits lt = record {
  level_there = fits.level;
  layer_there = omega (arith, layer_below number k.layers k.height lt, fits.layers);
  columns = fits.columns;
  y_there = omega (arith, row_below number k.layers k.height lt, fits.rows);
}

-- and of a level that is cleared
pub level_row : (m : ImageInfo) (r : SubresourceRange) (level number : ℕ) → BoxFits m (level_box m r level) → number < r.layers * level_height m level
    → RowThere m level (r.first_layer + number / level_height m level) 0 (number % level_height m level) (level_width m level)
level_row m r level number fits lt = record {
  level_there = fits.level;
  layer_there = omega (arith, layer_below number r.layers (level_height m level) lt, fits.layers);
  columns = omega arith;
  y_there = row_below number r.layers (level_height m level) lt;
}

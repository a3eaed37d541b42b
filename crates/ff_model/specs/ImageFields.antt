-- What an image's fields keep.
use Rattle.std.specs.Prelude.{◌≡◌, ◌<◌, ◌^◌, length, vec_len}
use Rattle.ff_model.specs.declared.image.Image.TheInside.{Inside}

-- there is a mask for each page
pub record IsKept (image : Inside) : Type 0 where
  pub marks : length image.marks ≡ vec_len image.pages
  pub count : vec_len image.pages < 2 ^ 32

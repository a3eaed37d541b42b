use Rattle.std.proofs.Common.{arith, refl, rules, sym, ◌*◌, ◌∙◌}
use Rattle.ff_map.proofs.Inverse.{blank_inverse}
use Rattle.ff_map.proofs.page_map.PageMap.new.Goals as goal

pub overflow_mul-geometry : goal.overflow_mul-geometry
overflow_mul-geometry c = let few = c.requires.flash_pages.high in omega (arith, few)

pub returns : goal.returns
returns c =
    rw (c.in_ok-pages.ensures.items_if_clones_equal (λ y h. search rules), sym c.in_ok-owners.owners.ok.0 ∙ c.in_ok-owners.ensures.len) refl

pub invariant_of-result : goal.invariant_of-result
invariant_of-result c = record {
  inverse = rw (c.in_ok-pages.ensures.items_if_clones_equal (λ y h. search rules), c.in_ok-owners.ensures.items_if_clones_equal (λ y h. search rules))
      (blank_inverse c.args.geometry.now.pages (c.args.geometry.now.blocks * c.args.geometry.now.per_block));
  pages = rw (sym c.in_ok-pages.pages.ok.0 ∙ c.in_ok-pages.ensures.len) c.requires.pages;
  places = rw (sym c.in_ok-owners.owners.ok.0 ∙ c.in_ok-owners.ensures.len) c.requires.flash_pages;
}

-- How a probe answers: an item lies below what is looked for, is equal to it, or lies above.
use Rattle.std.specs.Prelude.{ℕ, cond, ℤ, int_lt}
use Rattle.std.specs.declared.cmp.Ordering.TheVariants.{Less, Equal, Greater}
use Rattle.std.specs.declared.cmp.Ordering.{Ordering}

-- Below, equal and above, in that order.
abbrev pub rank : Ordering → ℕ
rank Less = 0
rank Equal = 1
rank Greater = 2

-- How one number stands to another.
abbrev pub order : ℤ → ℤ → Ordering
order a b = cond (int_lt a b) Less (cond (int_lt b a) Greater Equal)

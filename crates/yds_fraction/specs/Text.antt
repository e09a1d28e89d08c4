-- How a quotient is written.
use Rattle.std.specs.Prelude.{ℕ, List, ◌++◌, codes}
use Rattle.std.specs.Fmt.{decimal}
use Rattle.yds_model.specs.Scale.{Quotient}

-- `num/den`
abbrev pub quotient_text : Quotient → List ℕ
quotient_text x = decimal x.num ++ codes "/" ++ decimal x.den

-- The definitions of reading and printing, tried on documents whose answer is known.
use Rattle.yds_model.proofs.Common.{◌≡◌, [], ◌∷◌, refl, codes, Ok, Err, reading, canonical_text, digits, no_document}
use Rattle.yds_model.specs.declared.reason.Reason.TheVariants.{FieldCount, BadNumber, MixedEnds, DuplicateName, MixedGrain, GapsTooFine, OutOfRange}

-- a field is missing: the fault stands one past the last byte of the last field
field_missing : reading (codes "job a 0 4") ≡ Err (record { line = 1; column = 10; reason = FieldCount })
field_missing = refl

-- a number with a zero in front
leading_zero : reading (codes "job a 0 04 1") ≡ Err (record { line = 1; column = 9; reason = BadNumber })
leading_zero = refl

-- a name that a job has already
duplicate : reading (codes "job a 0 4 8\njob a 1 2 3") ≡ Err (record { line = 2; column = 5; reason = DuplicateName })
duplicate = refl

-- ends of one slot with two denominators
ends : reading (codes "job a 0 4 8\nslot a 0+1/3 1+1/7 1") ≡ Err (record { line = 2; column = 14; reason = MixedEnds })
ends = refl

-- works of one job with two denominators
grain : reading (codes "job a 0 4 8\nslot a 0 1 0+1/2\nslot a 1 2 0+1/3\n") ≡ Err (record { line = 3; column = 12; reason = MixedGrain })
grain = refl

-- a point by which the common multiple of the hull's gaps is too great
fine : reading (codes "point 0 0\npoint 803 1\npoint 1604 2\npoint 2404 3\npoint 3203 4\npoint 4000 5\n") ≡ Err (record { line = 6; column = 7; reason = GapsTooFine })
fine = refl

-- a run with too much work
run_out : reading (codes "job a 0 1000000000 1\nticks 1\nrun a 0 1000001 1000000") ≡ Err (record { line = 3; column = 17; reason = OutOfRange })
run_out = refl

-- comments, blanks and the order of lines don't matter
again : reading (codes "# x\n job a\t0 4 8\nlevel 8 4\nmember a\npiece 0 4") ≡ Ok (record no_document {
  names = codes "a" ∷ [];
  jobs = record { release = 0; deadline = 4; work = 8 } ∷ [];
  levels = record { work = 8; length = 4; pieces = record { from = 0; to = 4 } ∷ []; members = 0 ∷ [] } ∷ [];
})
again = refl

-- the canonical text of what was read
printed : canonical_text (record no_document {
  names = codes "a" ∷ [];
  jobs = record { release = 0; deadline = 4; work = 8 } ∷ [];
  levels = record { work = 8; length = 4; pieces = record { from = 0; to = 4 } ∷ []; members = 0 ∷ [] } ∷ [];
}) ≡ codes "job a 0 4 8\nlevel 8 4\npiece 0 4\nmember a\n"
unfolding digits
printed = refl

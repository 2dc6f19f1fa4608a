-- Reading and writing in parts.
use Rattle.std.proofs.Common.{◌≡◌, ℕ, ◌+◌, List, [], ◌++◌, length, take, drop, Some, None, Option, Result, Ok, Err, OnErr, sym, ap, ◌∙◌, subst, take_all, take-add, length-take, arith}
use Rattle.std.specs.Io.KnownBytes.{Appends, Consumes}
use Rattle.plan_program.specs.Parts.{AppendsFront, ConsumesAtMost, ConsumesFront}
use Rattle.std.proofs.KnownBytes.{Appends-trans, Consumes-trans}

-- a buffer that was filled up to a place and from there on
pub filled_more : (a b c : Option (List ℕ)) (old new : List ℕ) (at n : ℕ) → take at new ≡ take at old → Consumes a b (take at old) → Consumes b c (take n (drop at new)) → Consumes a c (take (at + n) new)
filled_more a b c old new at n same first next =
    let both : take at old ++ take n (drop at new) ≡ take (at + n) new = ap (λ xs. xs ++ take n (drop at new)) (sym same) ∙ sym (take-add at n new) in
    subst (Consumes a c) both (Consumes-trans a b c (take at old) (take n (drop at new)) first next)

-- bytes that were written up to a place and from there on
pub written_more : (a b c : Option (List ℕ)) (bytes : List ℕ) (at n : ℕ) → Appends a b (take at bytes) → Appends b c (take n (drop at bytes)) → Appends a c (take (at + n) bytes)
written_more a b c bytes at n first next = subst (Appends a c) (sym (take-add at n bytes)) (Appends-trans a b c (take at bytes) (take n (drop at bytes)) first next)

-- what holds holds of an error
pub on_err : {T E : Type 0} (r : Result T E) (P : Type 0) → P → OnErr r P
on_err (Ok x) P p = tt
on_err (Err e) P p = p

-- a front that was read is no longer than it may be
pub at_most : (n : ℕ) (a b : Option (List ℕ)) → ConsumesFront n a b → ConsumesAtMost n a b
at_most n None b c = ([], omega arith, tt)
at_most n (Some bytes) b c = (take n bytes, omega (arith, length-take n bytes), c)

-- all that is written is a front of it
pub whole_front : (a b : Option (List ℕ)) (bytes : List ℕ) → Appends a b bytes → AppendsFront a b bytes
whole_front a b bytes w = (length bytes, subst (Appends a b) (sym (take_all (length bytes) bytes (omega arith))) w)

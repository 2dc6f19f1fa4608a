use Rattle.std.proofs.Common.{◌≡◌, length, get_or, sym, ◌∙◌, ap₂, arith, rules}
use Rattle.std.proofs.lemmas.List.{same_lists}
use lib.Bits.{bit_xor}
use Rattle.rows.specs.Bytes.{xored}
use Rattle.arrays.proofs.Made.{made}
use Rattle.std.proofs.lemmas.List.{get_or_default}
use Rattle.rows.proofs.Added.{get_or_xored, length_xored, sums}
use Rattle.rows.proofs.sums.sum.Goals as goal

pub returns : goal.returns
returns c =
    let a = c.args.a.now in
    let b = c.args.b.now in
    let ys = c.from_fn.result in
    let la : length a ≡ 32 = search rules in
    let lb : length b ≡ 32 = search rules in
    let ly : length ys ≡ 32 = search rules in
    record {
      value = same_lists ys (xored a b) (ly ∙ sym (length_xored a b ∙ la))
          (λ j d m.
          made _ 32 (λ k v. v ≡ bit_xor (get_or a k 0) (get_or b k 0)) _ (λ k r q l called. search rules) ys c.from_fn.ensures.items j d (omega arith)
          ∙ ap₂ bit_xor (get_or_default a j 0 d (omega arith)) (get_or_default b j 0 d (omega arith)) ∙ sym (get_or_xored a b j d (omega arith) (lb ∙ sym la)));
      laws = sums;
    }

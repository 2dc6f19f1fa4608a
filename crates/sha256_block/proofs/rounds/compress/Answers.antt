use Rattle.std.proofs.Common.{◌≡◌, ◌+◌, map, get_or, take, sym, ap, ◌∙◌, arith, rules}
use Rattle.std.proofs.lemmas.List.{get_or-map, get_or-drop, map-set, length-map}
use Rattle.sha256_block.specs.Fips180.{schedule, turn, turns, constants, vars, summed, compressed}
use Rattle.sha256_block.proofs.Steps.{begun, widen, turns_none, turns_step}
use Rattle.sha256_block.proofs.rounds.compress.Goals as goal

pub loop-t-init : goal.loop-t-init
loop-t-init g c = record {
  long = search rules;
  made = λ i b h e. begun (map (g.W.Word.at i) c.args.words.now) b (omega (arith, length-map c.args.words.now (g.W.Word.at i))) e;
  turned = λ i b h e. sym (turns_none _ _);
}

pub loop-t-preserved : goal.loop-t-preserved
loop-t-preserved g c =
    let w = c.loop-t.words in
    let t = c.loop-t.t in
    record {
      long = search rules;
      made = λ i b h e.
          let f = g.W.Word.at i in
          ap (take _) (map-set f w (t + 16) c.next_word.result)
          ∙ widen (map f w) b t (f c.next_word.result) (omega (arith, length-map w f)) (c.loop-t.invariant.made i b h e) (c.next_word.ensures i h);
      turned = λ i b h e.
          let f = g.W.Word.at i in
          let word = get_or w t c.index-words-t.result in
          let at : get_or (map (g.W.Word.at i) c.loop-t.words) c.loop-t.t 0 ≡ g.W.Word.at i (get_or c.loop-t.words c.loop-t.t c.index-words-t.result) =
          get_or-map f w t c.index-words-t.result 0 (omega arith) in
          turns_step (map f w) b (vars (map f c.args.hash.now)) (vars (map f c.loop-t.variables)) _ t t (omega arith) (omega arith) (c.loop-t.invariant.made i b h e) (c.loop-t.invariant.turned i b h e)
          (c.round-variables.ensures i h ∙ ap (λ k. turn k (f word) (vars (map f c.loop-t.variables))) (search rules) ∙ ap (λ x. turn (get_or constants t 0) x (vars (map f c.loop-t.variables))) (sym at));
    }

pub loop-t-2-preserved : goal.loop-t-2-preserved
loop-t-2-preserved g c i b h e =
    let f = g.W.Word.at i in
    let w = c.loop-t.words in
    let t = c.loop-t-2.t in
    let word = get_or w (48 + t) c.index-words-t-in-loop-t-2.result in
    let done : c.loop-t.t ≡ 48 = omega arith in
    let at : get_or (map (g.W.Word.at i) c.loop-t.words) (48 + c.loop-t-2.t) 0 ≡ g.W.Word.at i (get_or c.loop-t.words (48 + c.loop-t-2.t) c.index-words-t-in-loop-t-2.result) =
    get_or-map f w (48 + t) c.index-words-t-in-loop-t-2.result 0 (omega arith) in
    let next : 48 + c.loop-t-2.t + 1 ≡ 48 + (c.loop-t-2.t + 1) = omega arith in
    turns_step (map f w) b (vars (map f c.args.hash.now)) (vars (map f c.loop-t-2.variables)) _ (48 + t) 48 (omega arith) (omega arith) (rw done at (c.loop-t.invariant.made i b h e)) (c.loop-t-2.invariant i b h e)
    (c.round-variables-in-loop-t-2.ensures i h ∙ ap (λ k. turn k (f word) (vars (map f c.loop-t-2.variables))) (ap (λ u. get_or u t 0) c.split_at.ensures.back ∙ get_or-drop 48 constants t 0) ∙ ap (λ x. turn (get_or constants (48 + t) 0) x (vars (map f c.loop-t-2.variables))) (sym at))
    ∙ ap (λ n. turns n (schedule 48 b) (vars (map f c.args.hash.now))) next

pub returns : goal.returns
unfolding compressed
returns g c i b h e =
    let f = g.W.Word.at i in
    let done : 48 + c.loop-t-2.t ≡ 64 = omega arith in
    c.sum.ensures i h ∙ ap (summed (map f c.args.hash.now)) (rw done at (c.loop-t-2.invariant i b h e))

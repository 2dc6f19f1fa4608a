use Rattle.std.proofs.Common.{sym, ◌∙◌}
use Rattle.lms.proofs.Exact.{accepted_from}
use Rattle.lms.proofs.Sound.{accepted_yes}
use Rattle.lms.proofs.verifier.verify.Goals as goal

pub returns : goal.returns
returns g c =
    let a = c.args in
    let m = g.met.H.Hash in
    let e = c.decide.ensures in
    record {
      value = e;
      sound = λ r.
          accepted_from g.H.Hash.hashed g.H.Hash.ots g.H.Hash.tree a.root.now a.message.now a.sig.now (λ i. (c.type_inv.root i).fits) (λ i. (c.type_inv.sig i).fits)
          (sym e ∙ r);
      complete = λ r.
          e ∙ accepted_yes g.H.Hash.hashed g.H.Hash.ots g.H.Hash.tree m.ots_low m.tree_low a.root.now a.message.now a.sig.now r;
    }

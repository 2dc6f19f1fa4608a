use Rattle.std.proofs.Common.{◌≡◌, ◌^◌, ◌<◌, length, sym, ap, ◌∙◌, subst₂, rules}
use Rattle.lmots.specs.LmOts.{prefix}
use Rattle.lms.specs.Grown.{grown_root, grown_signature, tall}
use Rattle.lms.specs.Lms.{accepts}
use Rattle.lms.proofs.Sound.{signing_sound, length_start}
use Rattle.lms.proofs.kept.Tree.sign.Goals as goal

pub returns-clause-accepted : goal.returns-clause-accepted
returns-clause-accepted g c =
    let t = c.args.self.now in
    let q = c.args.key in
    let m = g.met.H.Hash in
    let H = g.H.Hash.hashed in
    let I = t.origin.id.bytes in
    let S = t.origin.seed.bytes in
    let leaf = c.in_ok-leaf.leaf in
    let et : leaf.tree.now ≡ t = search rules in
    let eq : leaf.key ≡ q = search rules in
    let there : q < 2 ^ tall t = subst₂ (λ t q. q < 2 ^ tall t) et eq leaf.there in
    let long : length I ≡ 16 = ap (λ t. length t.origin.id.bytes) (sym et) ∙ c.write_signature.ensures.named in
    ap (accepts H g.H.Hash.ots g.H.Hash.tree (grown_root H g.H.Hash.ots g.H.Hash.tree t) c.args.message.now)
    (c.write_signature.ensures.laid ∙ (λ j. grown_signature H g.H.Hash.ots g.H.Hash.tree (et j) (eq j) c.args.message.now))
    ∙ signing_sound H m.long g.H.Hash.ots g.H.Hash.tree m.ots_low m.tree_low t.height t.width I S (prefix H I S q)
    long (length_start H m.long I S q 0xfffd) q there c.args.message.now c.if-message-gt-LONGEST.false

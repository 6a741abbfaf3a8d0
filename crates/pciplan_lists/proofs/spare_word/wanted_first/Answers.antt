use Rattle.std.proofs.Common.{◌∷◌, sym, ◌∙◌, ap, subst, arith, MatchOption}
use Rattle.pci_base.specs.WindowKinds.{kind_value}
use Rattle.pciplan_lists.specs.Joined.{rest_with_comma}
use Rattle.pciplan_lists.specs.SpareWords.{HasFirst, HasNoFirst}
use Rattle.pciplan_lists.proofs.PoolWords.{address_same}
use Rattle.pciplan_lists.proofs.SpareWords.{other_first, bad_first_size, size_first}
use Rattle.pciplan_lists.proofs.spare_word.wanted_first.Goals as goal

pub returns-in_default-digits_of : goal.returns-in_default-digits_of
returns-in_default-digits_of c =
    other_first c.args.left c.first_of.result.0.now c.first_of.result.1
    (record { parts = ap rest_with_comma c.in-Some.is ∙ ap (λ t. 44 ∷ t) c.first_of.ensures.parts; clean = c.first_of.ensures.first })
    (kind_value c.args.class) c.in_default-digits_of.ensures

pub returns-in_err-size : goal.returns-in_err-size
returns-in_err-size c =
    subst (λ r. MatchOption r (HasNoFirst c.args.left (kind_value c.args.class)) (λ first. HasFirst c.args.left (kind_value c.args.class) first.0 first.1))
    (sym c.from_residual.ensures)
    (bad_first_size c.args.left c.first_of.result.0.now c.first_of.result.1
    (record { parts = ap rest_with_comma c.in-Some.is ∙ ap (λ t. 44 ∷ t) c.first_of.ensures.parts; clean = c.first_of.ensures.first })
    (kind_value c.args.class) c.in-Some-digits_of.digits.now c.in-Some-digits_of.ensures (λ n some is. c.in_err-size.ensures n is))

pub returns-in-0 : goal.returns-in-0
returns-in-0 c =
    bad_first_size c.args.left c.first_of.result.0.now c.first_of.result.1
    (record { parts = ap rest_with_comma c.in-Some.is ∙ ap (λ t. 44 ∷ t) c.first_of.ensures.parts; clean = c.first_of.ensures.first })
    (kind_value c.args.class) c.in-Some-digits_of.digits.now c.in-Some-digits_of.ensures
    (λ n some is. omega (arith, some, c.in-0.is, address_same c.in-Some-digits_of.digits.now n c.in_ok-size.size is c.in_ok-size.ensures))

pub returns-in_default-2 : goal.returns-in_default-2
returns-in_default-2 c =
    size_first c.args.left c.first_of.result.0.now c.first_of.result.1
    (record { parts = ap rest_with_comma c.in-Some.is ∙ ap (λ t. 44 ∷ t) c.first_of.ensures.parts; clean = c.first_of.ensures.first })
    (kind_value c.args.class) c.in-Some-digits_of.digits.now c.in-Some-digits_of.ensures
    c.in_ok-size.size (omega (arith, c.in_default-2)) c.in_ok-size.ensures

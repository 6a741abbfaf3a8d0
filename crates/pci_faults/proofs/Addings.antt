-- Lists of faults of judging that come behind others.
use Rattle.std.proofs.Common.{◌≡◌, ◌⊎◌, inl, inr, List, [], ◌++◌, sym, ◌∙◌, ap, append_assoc, append-nil}
use Rattle.std.specs.Prelude.{◌↔◌}
use Rattle.std.proofs.lemmas.List.Elements.{Contains-append_left, Contains-append_right, Contains-append_cases}
use Rattle.pci_spec.specs.System.{System}
use Rattle.pci_spec.specs.Fault as plain
use Rattle.pci_spec.specs.Order.{judging_key}
use Rattle.pci_spec.proofs.Members.{in_nil, pairs_nil, pairs_append}
use Rattle.pci_tree.specs.Outline.{Tree}
use Rattle.pci_tree.specs.Trees.{HasTree}
use Rattle.pci_faults.specs.JustLines.{AreJustLines, AreFaultsAppended}

abbrev pub Differ : plain.Fault → plain.Fault → Type 0
Differ f g = judging_key f ≡ judging_key g → ⊥

-- no fault of one kind has the key of one of the other
abbrev pub AreApart : (plain.Fault → Type 0) → (plain.Fault → Type 0) → Type 0
AreApart P Q = (f g : plain.Fault) → P f → Q g → judging_key f ≡ judging_key g → ⊥

pub just_none : (P : plain.Fault → Type 0) → ((f : plain.Fault) → P f → ⊥) → AreJustLines P []
just_none P none = record {
  each = λ f has. absurd (in_nil f has);
  complete = λ f is. absurd (none f is);
  distinct = pairs_nil Differ;
}

module _ (P Q R : plain.Fault → Type 0) (apart : AreApart P Q) (either : (f : plain.Fault) → R f ↔ (P f ⊎ Q f)) where
  just_both : (xs ys : List plain.Fault) → AreJustLines P xs → AreJustLines Q ys → AreJustLines R (xs ++ ys)
  just_both xs ys one two = record {
    each = λ f has. (either f).1 (elim (Contains-append_cases xs ys f has) [ inl before ↦ inl (one.each f before) | inr here ↦ inr (two.each f here) ]);
    complete = λ f is. elim ((either f).0 is) [
      | inl p ↦ Contains-append_left xs ys f (one.complete f p)
      | inr q ↦ Contains-append_right xs ys f (two.complete f q)
    ];
    distinct = pairs_append Differ xs ys one.distinct two.distinct (λ x y in_x in_y. apart x y (one.each x in_x) (two.each y in_y));
  }

just_same : (P Q : plain.Fault → Type 0) (xs : List plain.Fault) → ((f : plain.Fault) → P f ↔ Q f) → AreJustLines P xs → AreJustLines Q xs
just_same P Q xs same just = record {
  each = λ f has. (same f).0 (just.each f has);
  complete = λ f is. just.complete f ((same f).1 is);
  distinct = just.distinct;
}

module _ (t : Tree) where
  pub added_none : (P : System → plain.Fault → Type 0) (list : List plain.Fault) → ((s : System) → HasTree t s → (f : plain.Fault) → P s f → ⊥) → AreFaultsAppended t P list list
  added_none P list none = record { more = []; appended = sym (append-nil list); just = λ s tree. just_none (P s) (none s tree) }

  pub added_both : (P Q R : System → plain.Fault → Type 0) (a b c : List plain.Fault) → ((s : System) → HasTree t s → AreApart (P s) (Q s))
      → ((s : System) → HasTree t s → (f : plain.Fault) → R s f ↔ (P s f ⊎ Q s f)) → AreFaultsAppended t P a b → AreFaultsAppended t Q b c → AreFaultsAppended t R a c
  added_both P Q R a b c apart either one two = record {
    more = one.more ++ two.more;
    appended = two.appended ∙ ap (λ (l : List plain.Fault). l ++ two.more) one.appended ∙ append_assoc a one.more two.more;
    just = λ s tree. just_both (P s) (Q s) (R s) (apart s tree) (either s tree) one.more two.more (one.just s tree) (two.just s tree);
  }

  pub added_same : (P Q : System → plain.Fault → Type 0) (a b : List plain.Fault) → ((s : System) → HasTree t s → (f : plain.Fault) → P s f ↔ Q s f) → AreFaultsAppended t P a b → AreFaultsAppended t Q a b
  added_same P Q a b same added = record { more = added.more; appended = added.appended; just = λ s tree. just_same (P s) (Q s) added.more (same s tree) (added.just s tree) }

use Rattle.std.proofs.Common.{◌∙◌, ap, sym, subst}
use Rattle.std.proofs.lemmas.Result.{on_ok_weaker}
use Rattle.pci_spec.specs.Window.{WindowKind}
use Rattle.pci_base.specs.WindowKinds.{kind_value}
use Rattle.pci_claims.specs.Values.{code_given_value, told_value}
use Rattle.pci_why.specs.Rooms.{IsRoomKept}
use Rattle.pci_why.proofs.fits.fit_of.Goals as goal

pub fit_by-requires-clause-kept : goal.fit_by-requires-clause-kept
fit_by-requires-clause-kept g c =
    subst (λ (k : WindowKind). IsRoomKept (told_value c.args.judged.now.told.now) (code_given_value c.args.judged.now.given.now) c.args.judged.now.outline.now k c.args.rooms.now.io) (sym (ap kind_value c.in-Io.is) ∙ c.kind.ensures) c.requires.kept.io

pub fit_by-requires-in-Memory-clause-kept : goal.fit_by-requires-in-Memory-clause-kept
fit_by-requires-in-Memory-clause-kept g c =
    subst (λ (k : WindowKind). IsRoomKept (told_value c.args.judged.now.told.now) (code_given_value c.args.judged.now.given.now) c.args.judged.now.outline.now k c.args.rooms.now.mem) (sym (ap kind_value c.in-Memory.is) ∙ c.kind.ensures) c.requires.kept.memory

pub fit_by-requires-in-Prefetchable-clause-kept : goal.fit_by-requires-in-Prefetchable-clause-kept
fit_by-requires-in-Prefetchable-clause-kept g c =
    subst (λ (k : WindowKind). IsRoomKept (told_value c.args.judged.now.told.now) (code_given_value c.args.judged.now.given.now) c.args.judged.now.outline.now k c.args.rooms.now.pref) (sym (ap kind_value c.in-Prefetchable.is) ∙ c.kind.ensures) c.requires.kept.prefetchable

pub returns-in-Io-clause-kept : goal.returns-in-Io-clause-kept
returns-in-Io-clause-kept g c = on_ok_weaker c.fit_by.result
    (λ kept. record {
      lawful = c.requires.kept.lawful;
      each_on = c.requires.kept.each_on;
      io = subst (λ (k : WindowKind). IsRoomKept (told_value c.args.judged.now.told.now) (code_given_value c.args.judged.now.given.now) c.args.judged.now.outline.now k c.fit_by.new.kept) (sym c.kind.ensures ∙ ap kind_value c.in-Io.is) kept;
      memory = c.requires.kept.memory;
      prefetchable = c.requires.kept.prefetchable;
    })
    c.fit_by.ensures.kept

pub returns-in-Memory-clause-kept : goal.returns-in-Memory-clause-kept
returns-in-Memory-clause-kept g c = on_ok_weaker c.fit_by-in-Memory.result
    (λ kept. record {
      lawful = c.requires.kept.lawful;
      each_on = c.requires.kept.each_on;
      io = c.requires.kept.io;
      memory = subst (λ (k : WindowKind). IsRoomKept (told_value c.args.judged.now.told.now) (code_given_value c.args.judged.now.given.now) c.args.judged.now.outline.now k c.fit_by-in-Memory.new.kept) (sym c.kind.ensures ∙ ap kind_value c.in-Memory.is) kept;
      prefetchable = c.requires.kept.prefetchable;
    })
    c.fit_by-in-Memory.ensures.kept

pub returns-in-Prefetchable-clause-kept : goal.returns-in-Prefetchable-clause-kept
returns-in-Prefetchable-clause-kept g c = on_ok_weaker c.fit_by-in-Prefetchable.result
    (λ kept. record {
      lawful = c.requires.kept.lawful;
      each_on = c.requires.kept.each_on;
      io = c.requires.kept.io;
      memory = c.requires.kept.memory;
      prefetchable = subst (λ (k : WindowKind). IsRoomKept (told_value c.args.judged.now.told.now) (code_given_value c.args.judged.now.given.now) c.args.judged.now.outline.now k c.fit_by-in-Prefetchable.new.kept) (sym c.kind.ensures ∙ ap kind_value c.in-Prefetchable.is) kept;
    })
    c.fit_by-in-Prefetchable.ensures.kept

pub fit_by-requires-clause-told : goal.fit_by-requires-clause-told
fit_by-requires-clause-told g c = c.requires.kept.lawful

pub fit_by-requires-clause-on : goal.fit_by-requires-clause-on
fit_by-requires-clause-on g c = c.requires.kept.each_on

pub fit_by-requires-in-Memory-clause-told : goal.fit_by-requires-in-Memory-clause-told
fit_by-requires-in-Memory-clause-told g c = c.requires.kept.lawful

pub fit_by-requires-in-Memory-clause-on : goal.fit_by-requires-in-Memory-clause-on
fit_by-requires-in-Memory-clause-on g c = c.requires.kept.each_on

pub fit_by-requires-in-Prefetchable-clause-told : goal.fit_by-requires-in-Prefetchable-clause-told
fit_by-requires-in-Prefetchable-clause-told g c = c.requires.kept.lawful

pub fit_by-requires-in-Prefetchable-clause-on : goal.fit_by-requires-in-Prefetchable-clause-on
fit_by-requires-in-Prefetchable-clause-on g c = c.requires.kept.each_on

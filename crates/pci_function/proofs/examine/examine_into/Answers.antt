use Rattle.std.proofs.Common.{refl, sym, subst}
use Rattle.pci_spec.specs.System.{Function}
use Rattle.pci_function.specs.Fault.{fault_of}
use Rattle.pci_function.specs.Profile.{IsFirstFault}
use Rattle.pci_function.proofs.Examined.{clear_1, clear_3, first_fault_of, first_of_image, chain_fault}
use Rattle.pci_function.proofs.FirstDecoded.{AreRegistersFine, first_of_chain}
use Rattle.pci_function.proofs.examine.examine_into.Goals as goal

pub returns-in-Some : goal.returns-in-Some
returns-in-Some c =
    let f : Function = record { slot = c.args.slot; image = c.args.image.now.0; probe = c.args.probe.now.0 } in
    first_fault_of 1 f (fault_of c.in-Some.fault) (clear_1 f) c.in-Some.ensures.fault c.in-Some.ensures.first

pub returns-in-Err : goal.returns-in-Err
returns-in-Err c =
    let f : Function = record { slot = c.args.slot; image = c.args.image.now.0; probe = c.args.probe.now.0 } in
    subst (IsFirstFault f) (sym c.of_image.ensures) (first_of_image f c.in-Err.fault c.in-None.ensures.fault c.in-Err.ensures.decoded c.in-Err.ensures.first)

pub returns-in-Err-add_places : goal.returns-in-Err-add_places
returns-in-Err-add_places c =
    let f : Function = record { slot = c.args.slot; image = c.args.image.now.0; probe = c.args.probe.now.0 } in
    let fine : AreRegistersFine f = record { bars = c.in-Ok.ensures.decoded.decodable.bars; rom = c.in-Ok.ensures.decoded.decodable.rom; windows = c.in-Ok.ensures.decoded.decodable.windows } in
    subst (IsFirstFault f) (sym c.of_image-in-Err-add_places.ensures)
    (first_of_image f c.in-Err-add_places.fault c.in-None.ensures.fault (chain_fault f c.in-Err-add_places.fault c.in-Err-add_places.ensures.fault)
    (first_of_chain f c.in-Err-add_places.fault fine c.in-Err-add_places.ensures.first))

pub returns-in-Some-profile_fault : goal.returns-in-Some-profile_fault
returns-in-Some-profile_fault c =
    let f : Function = record { slot = c.args.slot; image = c.args.image.now.0; probe = c.args.probe.now.0 } in
    first_fault_of 3 f (fault_of c.in-Some-profile_fault.fault) (clear_3 f c.in-None.ensures.fault c.in-Ok.ensures.decoded.decodable (c.in-Ok-add_places.ensures.lawful.0 refl)) c.in-Some-profile_fault.ensures.fault c.in-Some-profile_fault.ensures.first

pub returns-in-None-profile_fault : goal.returns-in-None-profile_fault
returns-in-None-profile_fault c = record {
  decoded = c.in-Ok.ensures.decoded;
  clear = record {
    answers = λ lt. c.in-None.ensures.fault;
    registers = λ lt. (c.in-Ok.ensures.decoded.decodable, (c.in-Ok-add_places.ensures.lawful.0 refl));
    profile = λ lt. c.in-None-profile_fault.ensures.fault;
  };
}

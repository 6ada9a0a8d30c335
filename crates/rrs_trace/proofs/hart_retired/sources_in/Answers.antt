-- An encoding is one row at most, and else one instruction of a layer at most.
use Rattle.std.proofs.Common.{ap, ◌∙◌}
use Rattle.rrs_instruction.specs.Instructions.{row_of, fields_of}
use Rattle.rrs_hart.proofs.HalvesSteps.{one_row_stands, one_layer_stands}
use Rattle.rrs_trace.specs.Retired.{first_source, second_source}
use Rattle.rrs_trace.specs.HartRecords.{first_of_layer, second_of_layer}
use Rattle.rrs_trace.proofs.hart_retired.sources_in.Goals as goal

-- a row
pub returns-in-Some-clause-of_row : goal.returns-in-Some-clause-of_row
returns-in-Some-clause-of_row c = λ row f is.
    let i = c.in-Some.instruction in
    let same = (one_row_stands c.args.encoding (row_of i) row (fields_of i) f c.in-Some.ensures.stands is).1 in
    (c.source_registers.ensures.first ∙ ap first_source same, c.source_registers.ensures.second ∙ ap second_source same)

-- an instruction of a layer
pub returns-in-Some-layer_in-clause-of_layer : goal.returns-in-Some-layer_in-clause-of_layer
returns-in-Some-layer_in-clause-of_layer c = λ i none is.
    let same = one_layer_stands c.args.profile c.args.encoding c.in-Some-layer_in.instruction i c.in-Some-layer_in.ensures.is is in
    (c.sources_of_layer.ensures.first ∙ ap first_of_layer same, c.sources_of_layer.ensures.second ∙ ap second_of_layer same)

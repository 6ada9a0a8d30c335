-- The bytes that were read of the input and not given to the program yet.
use Rattle.std.specs.Prelude.{ℕ, List, slice_range}
use Rattle.rrs_linux.specs.declared.input_buffer.InputBuffer.{InputBuffer}

abbrev pub buffered_bytes : InputBuffer → List ℕ
buffered_bytes held = slice_range held.bytes held.start held.end

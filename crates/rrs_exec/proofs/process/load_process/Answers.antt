-- The segments and the stack are in the memory.
use Rattle.std.proofs.Common.{◌≡◌, ℕ, ◌+◌, ◌<◌, ◌≤◌, List, length, refl, map, true, ◌-◌, None, Err, inl, inr, subst, sym, ap, ◌∙◌, arith, rules}
use Rattle.std.specs.String.{string_bytes}
use Rattle.std.proofs.lemmas.Bool.Decides.{nat_tests}
use Rattle.rrs_memory.specs.Bytes.{ByteMap}
use Rattle.rrs_elf.specs.Executables.{IsExecutableIn, PT_LOAD}
use Rattle.rrs_elf.specs.declared.code_units.CodeUnit.{CodeUnit}
use Rattle.rrs_elf.specs.Headers.{e_entry, p_memsz, p_type, p_vaddr}
use Rattle.rrs_elf.specs.Loading.{loaded_size}
use Rattle.rrs_elf.specs.declared.program_headers.Addresses.{Addresses}
use Rattle.rrs_elf.specs.declared.program_headers.Addresses.TheVariants.{Virtual}
use Rattle.rrs_exec.specs.InitialStack.{stack_bytes}
use Rattle.rrs_elf.proofs.Accepted.{passed_in}
use Rattle.rrs_exec.specs.declared.image.Image.{Image}
use Rattle.rrs_exec.specs.declared.image.ImageError.{ImageError}
use Rattle.rrs_exec.specs.Processes.{unit_of}
use Rattle.rrs_exec.specs.ProcessMemories.{lies_between, process_writable}
use Rattle.rrs_exec.specs.Images.{IsFillable, IsImage, Filled, memory_refusal}
use Rattle.rrs_exec.proofs.StackWords.{block_length}
use Rattle.rrs_exec.proofs.process.load_process.Goals as goal

-- a segment that is loaded has all its bytes
loaded-whole : (file : List ℕ) (i : ℕ) → p_type file i ≡ PT_LOAD → loaded_size file i ≡ p_memsz file i
loaded-whole file i loaded = rw loaded refl

-- the same file, stack and bytes before, by other names
renamed : (at : Addresses) (file file' : List ℕ) (sp : ℕ) (stack stack' : List ℕ) (old old' new : ByteMap)
    → at ≡ Virtual → file ≡ file' → stack ≡ stack' → old ≡ old' → Filled at file sp stack old new → Filled Virtual file' sp stack' old' new
renamed at file file' sp stack stack' old old' new a f s o filled =
    subst (λ file. Filled Virtual file sp stack' old' new) f
    (subst (λ stack. Filled Virtual file sp stack old' new) s
    (subst (λ old. Filled Virtual file sp stack old new) o
    (subst (λ at. Filled at file sp stack old new) a filled)))

-- an address of the memory is writable
lies : (base end a : ℕ) → base ≤ a → a < end → lies_between base end a ≡ true
lies base end a from below = grind (arith, nat_tests)

-- a program that can be entered has an address
entered : (unit : CodeUnit) (file : List ℕ) (arguments variables : List (List ℕ)) (wanted : ℕ) (image : Image) → IsExecutableIn unit Virtual file → IsImage file arguments variables wanted image
    → image.layout.base ≤ image.layout.stack_start
entered unit file arguments variables wanted image here im =
    let at = here.entry_inside in
    let sized : loaded_size file at.0 ≡ p_memsz file at.0 = loaded-whole file at.0 at.1.loaded.of_type in
    let inside = im.program at.0 (e_entry file - p_vaddr file at.0) at.1.loaded.numbered (omega (arith, sized, at.1.from_start, at.1.before_end)) in
    omega (arith, inside.0, inside.1, im.laid_out.first, im.laid_out.behind, im.laid_out.heap, im.laid_out.gap)

pub new-requires-clause-ordered : goal.new-requires-clause-ordered
new-requires-clause-ordered c =
    let here : IsExecutableIn (unit_of c.args.profile) Virtual c.args.file.now = search rules in
    entered (unit_of c.args.profile) c.args.file.now (map string_bytes c.args.arguments.now) (map string_bytes c.args.variables.now) c.args.wanted c.in_ok-image.image here
    (subst (λ file. IsImage file (map string_bytes c.args.arguments.now) (map string_bytes c.args.variables.now) c.args.wanted c.in_ok-image.image) c.in-Ok.ensures.same c.in_ok-image.ensures.image)

pub new-requires-clause-stack : goal.new-requires-clause-stack
new-requires-clause-stack c = omega (arith, c.in_ok-image.ensures.image.laid_out.stack.0)

pub new-requires-clause-base : goal.new-requires-clause-base
new-requires-clause-base c = omega (arith, c.in_ok-image.ensures.image.laid_out.first_page.0)

pub new-requires-clause-split : goal.new-requires-clause-split
new-requires-clause-split c = omega (arith, c.in_ok-image.ensures.image.laid_out.stack_page)

pub new-requires-clause-end : goal.new-requires-clause-end
new-requires-clause-end c = omega (arith, c.in_ok-image.ensures.image.laid_out.end_page)

pub fill-requires-clause-writable : goal.fill-requires-clause-writable
fill-requires-clause-writable c = λ a. ap (λ w. w a) c.in-Ok-new.ensures.writable

pub fill-requires-clause-zeros : goal.fill-requires-clause-zeros
fill-requires-clause-zeros c = λ a lies.
    let is : lies_between c.in_ok-image.image.layout.base c.in_ok-image.image.layout.end a ≡ true = sym (ap (λ w. w a) c.in-Ok-new.ensures.writable) ∙ lies in
    ap (λ f. f a) c.in-Ok-new.ensures.zeros ∙ (rw is refl)

pub fill-requires-clause-below : goal.fill-requires-clause-below
fill-requires-clause-below c =
    let im = c.in_ok-image.ensures.image in
    λ i j numbered within.
    rw c.in-Ok.ensures.placed (omega (arith, (im.program i j numbered within).1, im.laid_out.behind, im.laid_out.heap, im.laid_out.gap, im.on_stack))

pub returns-clause-loaded : goal.returns-clause-loaded
returns-clause-loaded c =
    let image = c.in_ok-image.image in
    let im = c.in_ok-image.ensures.image in
    let same = c.in-Ok.ensures.same in
    record {
      executable = search rules;
      is_image = subst (λ file. IsImage file (map string_bytes c.args.arguments.now) (map string_bytes c.args.variables.now) c.args.wanted image) same im;
      long = c.fill.ensures.writable_kept ∙ c.in-Ok-new.ensures.writable;
      filled = renamed _ _ _ _ _ _ _ _ _ c.in-Ok.ensures.placed same c.deref.ensures.value c.in-Ok-new.ensures.zeros c.in_ok-fill.ensures.filled;
    }

-- a file that is no executable is refused for what it is
pub returns-in-Err-clause-refused : goal.returns-in-Err-clause-refused
returns-in-Err-clause-refused c = λ refusal is. cc (is, c.in-Err.ensures.refused)

pub returns-in_err-image-clause-refused : goal.returns-in_err-image-clause-refused
returns-in_err-image-clause-refused c = λ refusal is.
    let executable : IsExecutableIn (unit_of c.args.profile) Virtual c.args.file.now = search rules in
    absurd (cc (is, passed_in (unit_of c.args.profile) Virtual c.args.file.now executable))

pub returns-in-Err-new-clause-refused : goal.returns-in-Err-new-clause-refused
returns-in-Err-new-clause-refused c = λ refusal is.
    let executable : IsExecutableIn (unit_of c.args.profile) Virtual c.args.file.now = search rules in
    absurd (cc (is, passed_in (unit_of c.args.profile) Virtual c.args.file.now executable))

pub returns-in_err-fill-clause-refused : goal.returns-in_err-fill-clause-refused
returns-in_err-fill-clause-refused c = λ refusal is.
    let executable : IsExecutableIn (unit_of c.args.profile) Virtual c.args.file.now = search rules in
    absurd (cc (is, passed_in (unit_of c.args.profile) Virtual c.args.file.now executable))

-- Long arguments are refused before memory is taken.
pub returns-clause-long : goal.returns-clause-long
returns-clause-long c = λ executable none long.
    absurd (cc (c.in_ok-image.ensures.long (rw c.in-Ok.ensures.same none) (rw c.in-Ok.ensures.same long)))

pub returns-in_err-image-clause-long : goal.returns-in_err-image-clause-long
returns-in_err-image-clause-long c = λ executable none long.
    let answer : c.from_residual.result ≡ Err c.in_err-image.field-0.0 = grind arith in
    let refused = c.in_err-image.ensures.long (rw c.in-Ok.ensures.same none) (rw c.in-Ok.ensures.same long) in
    let is : c.in_err-image.field-0.0 ≡ ImageError.LongArguments = cc refused in
    answer ∙ ap Err is

pub returns-in-Err-new-clause-long : goal.returns-in-Err-new-clause-long
returns-in-Err-new-clause-long c = λ executable none long.
    absurd (cc (c.in_ok-image.ensures.long (rw c.in-Ok.ensures.same none) (rw c.in-Ok.ensures.same long)))

pub returns-in_err-fill-clause-long : goal.returns-in_err-fill-clause-long
returns-in_err-fill-clause-long c = λ executable none long.
    absurd (cc (c.in_ok-image.ensures.long (rw c.in-Ok.ensures.same none) (rw c.in-Ok.ensures.same long)))

-- Another error is that memory is missing.
pub returns-in_err-image-clause-otherwise : goal.returns-in_err-image-clause-otherwise
returns-in_err-image-clause-otherwise c = λ executable none fine.
    let free : memory_refusal c.in-Ok.executable.file.now c.args.wanted ≡ None = rw c.in-Ok.ensures.same none in
    let answer : c.from_residual.result ≡ Err c.in_err-image.field-0.0 = grind arith in
    let is : c.in_err-image.field-0.0 ≡ ImageError.OutOfMemory = elim (rw free at c.in_err-image.ensures.refused) [
      | inl long ↦ absurd (fine (rw c.in-Ok.ensures.same at (c.in_err-image.ensures.short (ap Err long))))
      | inr short ↦ short
    ] in
    rw answer is

pub returns-in_err-fill-clause-otherwise : goal.returns-in_err-fill-clause-otherwise
returns-in_err-fill-clause-otherwise c = λ executable none fine.
    let image = c.in_ok-image.image in
    let layout = image.layout in
    let im = c.in_ok-image.ensures.image in
    let file = c.in-Ok.executable.file.now in
    let low : layout.base ≤ layout.stack_start = entered (unit_of c.args.profile) file (map string_bytes c.args.arguments.now) (map string_bytes c.args.variables.now) c.args.wanted image (rw c.in-Ok.ensures.same executable) im in
    let size : length c.deref.result.now ≡ stack_bytes (map string_bytes c.args.arguments.now) (map string_bytes c.args.variables.now) =
    ap length (c.deref.ensures.value ∙ im.stack_is) ∙ block_length image.stack_pointer (map string_bytes c.args.arguments.now) (map string_bytes c.args.variables.now) _ in
    let fits = im.fits in
    let top = im.laid_out.top in
    let writable = c.in-Ok-new.ensures.writable in
    let answer : c.from_residual-in_err-fill.result ≡ Err c.in_err-fill.field-0.0 = grind arith in
    let there : IsFillable Virtual file image.stack_pointer (length c.deref.result.now) (process_writable c.in-Ok-new.memory) = record {
      segments = λ i j numbered within.
          let program = im.program i j numbered within in
          let under : p_vaddr file i + j < layout.end = omega (arith, program.1, im.laid_out.behind, im.laid_out.heap, im.laid_out.gap, im.laid_out.stack.0) in
          ap (λ w. w (p_vaddr file i + j)) writable ∙ lies layout.base layout.end _ (omega (arith, program.0, im.laid_out.first)) under;
      stack = λ k there.
          ap (λ w. w (image.stack_pointer + k)) writable ∙ lies layout.base layout.end _ (omega (arith, low, im.on_stack)) (omega (arith, there, size, fits));
      ends = omega (arith, size, fits, top);
    } in
    rw answer (c.in_err-fill.ensures.fillable (rw c.in-Ok.ensures.placed there))

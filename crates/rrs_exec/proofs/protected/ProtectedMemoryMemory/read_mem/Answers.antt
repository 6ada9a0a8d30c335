-- An access whose page is mapped is one of the memory.
use Rattle.std.proofs.Common.{◌≡◌, true, ap, sym, ◌∙◌}
use Rattle.rrs_memory.specs.Bytes.{width}
use Rattle.rrs_exec.specs.ProcessMemories.{process_bytes, process_writable, process_layout}
use Rattle.rrs_exec.specs.Protection.{mark_at, is_mapped, bytes_under, writable_under}
use Rattle.rrs_exec.proofs.Pages.{mapped_either, value_mapped, lawful_under, ends_under}
use Rattle.rrs_exec.proofs.protected.ProtectedMemoryMemory.read_mem.Goals as goal

pub returns-in-ReadOnly : goal.returns-in-ReadOnly
returns-in-ReadOnly c =
    let old = c.args.self.now in
    let marks = old.marks.items in
    let a = c.args.addr in
    let laws = c.read_mem.ensures.laws in
    let same = c.read_mem.ensures.did in
    let at : c.mark_at.result ≡ mark_at marks a = c.mark_at.ensures ∙ ap (λ ms. mark_at ms a) c.deref.ensures.value in
    let mapped : is_mapped (mark_at marks a) ≡ true = ap is_mapped (sym at) ∙ mapped_either c.mark_at.result c.in-ReadOnly.is in
    record {
      laws = record {
        value = laws.value ∙ sym (value_mapped marks a c.args.size c.requires (process_bytes old.memory) mapped);
        bytes_kept = ap (λ m. bytes_under marks (process_bytes m)) same;
        writable_kept = ap (λ m. writable_under marks (process_writable m)) same;
        layout_kept = ap process_layout same;
        lawful = lawful_under marks (process_bytes old.memory) (process_writable old.memory) a (width c.args.size) laws.lawful;
        ends = ends_under marks (process_bytes old.memory) (process_writable old.memory) laws.ends;
      };
      did = ap (λ m. record old { memory = m }) same;
    }

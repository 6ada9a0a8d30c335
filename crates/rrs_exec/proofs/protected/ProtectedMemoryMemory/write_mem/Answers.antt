-- A write whose page is writable is one of the memory, and another one is refused.
use Rattle.std.proofs.Common.{◌≡◌, true, false, ap, sym, refl, ◌∙◌, rules}
use Rattle.std.proofs.lemmas.Bool.{OnTrue_at, OnTrue_from, OnFalse_at, OnFalse_from}
use Rattle.rrs_memory.specs.Bytes.{width}
use Rattle.rrs_exec.specs.ProcessMemories.{process_bytes, process_writable}
use Rattle.rrs_exec.proofs.ProcessAccesses.{lawful_anywhere, ends_anywhere}
use Rattle.rrs_exec.specs.Protection.{mark_at, is_writable, bytes_under, writable_under}
use Rattle.rrs_exec.proofs.Pages.{refused_either, granted_writable, granted_refused, stored, lawful_under, ends_under}
use Rattle.rrs_exec.proofs.protected.ProtectedMemoryMemory.write_mem.Goals as goal

pub returns-in-Writable-clause-laws : goal.returns-in-Writable-clause-laws
returns-in-Writable-clause-laws c =
    let old = c.args.self.now in
    let marks = old.marks.items in
    let a = c.args.addr in
    let laws = c.write_mem.ensures.laws in
    let at : c.mark_at.result ≡ mark_at marks a = c.mark_at.ensures ∙ ap (λ ms. mark_at ms a) c.deref.ensures.value in
    let writable : is_writable (mark_at marks a) ≡ true = ap is_writable (sym at ∙ c.in-Writable.is) in
    record {
      granted = laws.granted ∙ sym (granted_writable marks a c.args.size c.requires (process_writable old.memory) writable);
      written = OnTrue_from _ _ (λ t. stored marks a c.args.size c.requires (process_bytes old.memory) _ c.args.store_data writable (OnTrue_at t laws.written));
      refused = OnFalse_from _ _ (λ f. ap (bytes_under marks) (OnFalse_at f laws.refused));
      writable_kept = ap (writable_under marks) laws.writable_kept;
      layout_kept = laws.layout_kept;
      lawful = lawful_under marks (process_bytes old.memory) (process_writable old.memory) a (width c.args.size) laws.lawful;
      ends = ends_under marks (process_bytes old.memory) (process_writable old.memory) laws.ends;
    }

pub returns-in-Writable-clause-did : goal.returns-in-Writable-clause-did
returns-in-Writable-clause-did c = record {
  written = (returns-in-Writable-clause-laws c).written;
  refused = OnFalse_from _ _ (λ f. ap (λ m. record c.args.self.now { memory = m }) (OnFalse_at f c.write_mem.ensures.did.refused));
  marks_kept = refl;
}

pub returns-in-Unmapped : goal.returns-in-Unmapped
returns-in-Unmapped c =
    let old = c.args.self.now in
    let marks = old.marks.items in
    let a = c.args.addr in
    let at : c.mark_at.result ≡ mark_at marks a = c.mark_at.ensures ∙ ap (λ ms. mark_at ms a) c.deref.ensures.value in
    let refused : is_writable (mark_at marks a) ≡ false = ap is_writable (sym at) ∙ refused_either c.mark_at.result c.in-Unmapped.is in
    record {
      laws = record {
        granted = sym (granted_refused marks a c.args.size c.requires (process_writable old.memory) refused);
        written = search rules;
        refused = search rules;
        writable_kept = refl;
        layout_kept = refl;
        lawful = lawful_under marks (process_bytes old.memory) (process_writable old.memory) a (width c.args.size) (lawful_anywhere old.memory a (width c.args.size));
        ends = ends_under marks (process_bytes old.memory) (process_writable old.memory) (ends_anywhere old.memory);
      };
      did = record {
        written = search rules;
        refused = search rules;
        marks_kept = refl;
      };
    }

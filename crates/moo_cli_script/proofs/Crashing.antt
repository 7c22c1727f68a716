-- A disk that is made to fail, and one that a crash has left.
use Rattle.std.proofs.Common.{◌≡◌, ℕ, [], ◌∷◌, Some, sym, ◌∙◌, ap, subst}
use Rattle.std.specs.Prelude.{slice_get}
use Rattle.moo_disk.specs.Disk.{DiskKind, IsLeftBy}
use Rattle.moo_disk.specs.FailAt.{inner_of, left_of}
use Rattle.moo_disk.specs.Memory.{images, view_of}
use Rattle.moo_disk.specs.declared.memory.MemoryDisk.{MemoryDisk}
use Rattle.moo_dbtext_read.specs.Saved.{Saved}
use Rattle.moo_server_core.specs.Application.{Layer}
use Rattle.moo_server_core.specs.Server.{Follows, with_disk}
use Rattle.moo_server_core.specs.declared.server_core.ServerCore.{ServerCore}
use Rattle.moo_cli_script.specs.Script.{IsCrashed, ScriptDisk}

-- a server goes on with the same disk
pub follows_same_disk : {S Application D : Type 0} (l : Layer S Application Saved) (kind : DiskKind D) (server : ServerCore S) (one other : D) → other ≡ one
    → Follows l kind (with_disk server one) → Follows l kind (with_disk server other)
follows_same_disk l kind server one other is follows = subst (λ d. Follows l kind (with_disk server d)) (sym is) follows

pub crashed : (i : ℕ) (old left : ScriptDisk) (within after : MemoryDisk) → within ≡ inner_of old → inner_of left ≡ after
    → slice_get (images within) i ≡ Some (view_of after).main_text → images after ≡ (view_of after).main_text ∷ [] → IsLeftBy (view_of within) (view_of after)
    → left_of left ≡ 0 → IsCrashed i old left
crashed i old left within after was is image alone bare call = record {
  image = subst (λ (d : MemoryDisk). slice_get (images (inner_of old)) i ≡ Some (view_of d).main_text) (sym is)
      (subst (λ (d : MemoryDisk). slice_get (images d) i ≡ Some (view_of after).main_text) was image);
  alone = subst (λ (d : MemoryDisk). images d ≡ (view_of d).main_text ∷ []) (sym is) alone;
  spare = ap (λ (d : MemoryDisk). (view_of d).spare) is ∙ bare.spare;
  call = call;
}

use Rattle.std.proofs.Common.{refl}
use Rattle.std.proofs.lemmas.Result.{IfErr-weaker, IfOk-weaker}
use Rattle.cpm_commands.proofs.TaskLemmas.{plain-done, plain-refused}
use Rattle.cpm_commands.proofs.task.do_task.Goals as goal

pub returns-in-Com-clause-done : goal.returns-in-Com-clause-done
returns-in-Com-clause-done g c = IfOk-weaker c.do_play_task.result _ _ (λ s h. rw c.in-Com.is h) c.do_play_task.ensures.ran

pub returns-in-Com-clause-refusal : goal.returns-in-Com-clause-refusal
returns-in-Com-clause-refusal g c = IfErr-weaker c.do_play_task.result _ _ (λ e h. rw c.in-Com.is h) c.do_play_task.ensures.refusal

pub returns-in-Boot-clause-done : goal.returns-in-Boot-clause-done
returns-in-Boot-clause-done g c = IfOk-weaker c.do_play_task-in-Boot.result _ _ (λ s h. rw c.in-Boot.is h) c.do_play_task-in-Boot.ensures.ran

pub returns-in-Boot-clause-refusal : goal.returns-in-Boot-clause-refusal
returns-in-Boot-clause-refusal g c = IfErr-weaker c.do_play_task-in-Boot.result _ _ (λ e h. rw c.in-Boot.is h) c.do_play_task-in-Boot.ensures.refusal

pub returns-in-Asm-clause-done : goal.returns-in-Asm-clause-done
returns-in-Asm-clause-done g c = plain-done _ _ c.assemble_file.result c.plain.result c.plain.ensures (λ h. rw c.in-Asm.is ((h, refl), refl)) c.assemble_file.ensures.assembled

pub returns-in-Asm-clause-refusal : goal.returns-in-Asm-clause-refusal
returns-in-Asm-clause-refusal g c = plain-refused _ _ c.assemble_file.result c.plain.result c.plain.ensures (λ e h. rw c.in-Asm.is (h, refl)) c.assemble_file.ensures.refusal

pub returns-in-List-clause-done : goal.returns-in-List-clause-done
returns-in-List-clause-done g c = plain-done _ _ c.list_program.result c.plain-in-List.result c.plain-in-List.ensures (λ h. rw c.in-List.is (h, refl)) c.list_program.ensures.listed

pub returns-in-List-clause-refusal : goal.returns-in-List-clause-refusal
returns-in-List-clause-refusal g c = plain-refused _ _ c.list_program.result c.plain-in-List.result c.plain-in-List.ensures (λ e h. rw c.in-List.is h) c.list_program.ensures.refusal

pub returns-in-Check-clause-done : goal.returns-in-Check-clause-done
returns-in-Check-clause-done g c = plain-done _ _ c.check_image.result c.plain-in-Check.result c.plain-in-Check.ensures (λ h. rw c.in-Check.is (h, refl)) c.check_image.ensures.checked

pub returns-in-Check-clause-refusal : goal.returns-in-Check-clause-refusal
returns-in-Check-clause-refusal g c = plain-refused _ _ c.check_image.result c.plain-in-Check.result c.plain-in-Check.ensures (λ e h. rw c.in-Check.is h) c.check_image.ensures.refusal

pub returns-in-Run-clause-done : goal.returns-in-Run-clause-done
returns-in-Run-clause-done g c = plain-done _ _ c.run_sessions.result c.plain-in-Run.result c.plain-in-Run.ensures (λ h. rw c.in-Run.is (h, refl)) c.run_sessions.ensures.ran

pub returns-in-Run-clause-refusal : goal.returns-in-Run-clause-refusal
returns-in-Run-clause-refusal g c = plain-refused _ _ c.run_sessions.result c.plain-in-Run.result c.plain-in-Run.ensures (λ e h. rw c.in-Run.is h) c.run_sessions.ensures.refusal

pub returns-in-Debug-clause-done : goal.returns-in-Debug-clause-done
returns-in-Debug-clause-done g c = plain-done _ _ c.do_debug_task.result c.plain-in-Debug.result c.plain-in-Debug.ensures (λ h. rw c.in-Debug.is (h, refl)) c.do_debug_task.ensures.done

pub returns-in-Debug-clause-refusal : goal.returns-in-Debug-clause-refusal
returns-in-Debug-clause-refusal g c = plain-refused _ _ c.do_debug_task.result c.plain-in-Debug.result c.plain-in-Debug.ensures (λ e h. rw c.in-Debug.is h) c.do_debug_task.ensures.refusal

pub returns-in-Saved-clause-done : goal.returns-in-Saved-clause-done
returns-in-Saved-clause-done g c = plain-done _ _ c.tell_saved.result c.plain-in-Saved.result c.plain-in-Saved.ensures (λ h. rw c.in-Saved.is (h, refl)) c.tell_saved.ensures.told

pub returns-in-Saved-clause-refusal : goal.returns-in-Saved-clause-refusal
returns-in-Saved-clause-refusal g c = plain-refused _ _ c.tell_saved.result c.plain-in-Saved.result c.plain-in-Saved.ensures (λ e h. rw c.in-Saved.is h) c.tell_saved.ensures.refusal

pub returns-in-Serve-clause-done : goal.returns-in-Serve-clause-done
returns-in-Serve-clause-done g c = plain-done _ _ c.serve_requests.result c.plain-in-Serve.result c.plain-in-Serve.ensures (λ h. rw c.in-Serve.is (h, refl)) c.serve_requests.ensures.served

pub returns-in-Serve-clause-refusal : goal.returns-in-Serve-clause-refusal
returns-in-Serve-clause-refusal g c = plain-refused _ _ c.serve_requests.result c.plain-in-Serve.result c.plain-in-Serve.ensures (λ e h. rw c.in-Serve.is h) c.serve_requests.ensures.refusal

pub returns-in-Disk-clause-done : goal.returns-in-Disk-clause-done
returns-in-Disk-clause-done g c = plain-done _ _ c.do_disk.result c.plain-in-Disk.result c.plain-in-Disk.ensures (λ h. rw c.in-Disk.is (h, refl)) c.do_disk.ensures.done

pub returns-in-Disk-clause-refusal : goal.returns-in-Disk-clause-refusal
returns-in-Disk-clause-refusal g c = plain-refused _ _ c.do_disk.result c.plain-in-Disk.result c.plain-in-Disk.ensures (λ e h. rw c.in-Disk.is h) c.do_disk.ensures.refusal

pub returns-in-Help-clause-done : goal.returns-in-Help-clause-done
returns-in-Help-clause-done g c = plain-done _ _ c.print_page.result c.plain-in-Help.result c.plain-in-Help.ensures (λ h. rw c.in-Help.is ((refl, h), refl)) c.print_page.ensures.printed

pub returns-in-Help-clause-refusal : goal.returns-in-Help-clause-refusal
returns-in-Help-clause-refusal g c = plain-refused _ _ c.print_page.result c.plain-in-Help.result c.plain-in-Help.ensures (λ e h. rw c.in-Help.is (refl, h)) c.print_page.ensures.refusal

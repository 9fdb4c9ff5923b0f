use Rattle.vk_device.proofs.device.Device.change.Goals as goal

pub returns-in_ok-begin_defrag-in-Defrag-clause-done : goal.returns-in_ok-begin_defrag-in-Defrag-clause-done
returns-in_ok-begin_defrag-in-Defrag-clause-done c = rw c.in-Defrag.is c.in_ok-begin_defrag-in-Defrag.ensures.done

pub returns-in_ok-begin_pass-in-Pass-clause-done : goal.returns-in_ok-begin_pass-in-Pass-clause-done
returns-in_ok-begin_pass-in-Pass-clause-done c = rw c.in-Pass.is c.in_ok-begin_pass-in-Pass.ensures.done

pub returns-in_ok-end_pass-in-EndPass-clause-done : goal.returns-in_ok-end_pass-in-EndPass-clause-done
returns-in_ok-end_pass-in-EndPass-clause-done c = rw c.in-EndPass.is c.in_ok-end_pass-in-EndPass.ensures.done

pub returns-in-EndDefrag-clause-done : goal.returns-in-EndDefrag-clause-done
returns-in-EndDefrag-clause-done c = rw c.in-EndDefrag.is c.end_defrag.ensures.done

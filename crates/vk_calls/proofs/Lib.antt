mod Calling
